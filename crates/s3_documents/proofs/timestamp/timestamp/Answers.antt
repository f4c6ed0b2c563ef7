use Rattle.std.proofs.Common.{◌≡◌, ap, sym, ◌∙◌, subst, ◌≤◌, true, IsAscii}
use Rattle.std.proofs.lemmas.Str.{IsUtf8-from_ascii}
use Rattle.std.specs.List.{list_all}
use Rattle.json.specs.Print.{escape}
use Rattle.s3_calendar.specs.Moment.{last_moment}
use Rattle.s3_documents.specs.Timestamp.{spelled_out}
use Rattle.s3_documents.proofs.CalendarLemmas.{timestamp_is}
use Rattle.s3_documents.proofs.DateLemmas.{spelled_ascii}
use Rattle.s3_documents.proofs.PlainLemmas.{spelled_plain}
use Rattle.s3_documents.proofs.XmlPlainLemmas.{spelled_is_plain}
use Rattle.s3_documents.specs.Xml.{is_plain}
use Rattle.s3_documents.proofs.timestamp.timestamp.Goals as goal

pub returns-clause-value : goal.returns-clause-value
returns-clause-value c =
    let bound = subst (λ n. n ≤ last_moment) c.seconds-bound.ensures.value c.seconds-bound.ensures.bound in
    c.spelled.ensures ∙ ap spelled_out c.text.ensures.text
    ∙ sym (timestamp_is c.stamps_of_a_moment.ensures c.args.moment c.at-stamp.result bound c.at-stamp.ensures.valid c.at-stamp.ensures.names)

pub returns-clause-utf8 : goal.returns-clause-utf8
returns-clause-utf8 c =
    IsUtf8-from_ascii _ (subst IsAscii (sym (c.spelled.ensures ∙ ap spelled_out c.text.ensures.text)) (spelled_ascii c.at-stamp.result c.at-stamp.ensures.valid))

pub returns-clause-plain : goal.returns-clause-plain
returns-clause-plain c =
    let bound = subst (λ n. n ≤ last_moment) c.seconds-bound.ensures.value c.seconds-bound.ensures.bound in
    let is = timestamp_is c.stamps_of_a_moment.ensures c.args.moment c.at-stamp.result bound c.at-stamp.ensures.valid c.at-stamp.ensures.names in
    subst (λ xs. escape xs ≡ xs) (sym is) (spelled_plain c.at-stamp.result c.at-stamp.ensures.valid)

pub returns-clause-characters : goal.returns-clause-characters
returns-clause-characters c =
    let bound = subst (λ n. n ≤ last_moment) c.seconds-bound.ensures.value c.seconds-bound.ensures.bound in
    let is = timestamp_is c.stamps_of_a_moment.ensures c.args.moment c.at-stamp.result bound c.at-stamp.ensures.valid c.at-stamp.ensures.names in
    subst (λ xs. list_all is_plain xs ≡ true) (sym is) (spelled_is_plain c.at-stamp.result c.at-stamp.ensures.valid)
