use Rattle.std.proofs.Common.{◌++◌, ◌∙◌, sym, ap₂, List, ℕ, arith}
use Rattle.std.proofs.lemmas.List.{take-append-drop}
use Rattle.std.proofs.lemmas.Option.{none-some, IfSome_then}
use Rattle.s3_columns.proofs.TagLemmas.{digits_taken, tail_dropped, text_long, some_same}
use Rattle.s3_columns.proofs.tags.read_tag.Goals as goal

pub returns-in_err-digits-clause-found : goal.returns-in_err-digits-clause-found
returns-in_err-digits-clause-found c = λ md5 parts is are e.
    absurd (omega (arith, text_long c.args.text.now md5 parts is e, c.in_err-digits.ensures.cases))

pub returns-in_err-read_digest-clause-found : goal.returns-in_err-read_digest-clause-found
returns-in_err-read_digest-clause-found c = λ md5 parts is are e.
    absurd (none-some md5 (c.in_err-read_digest.ensures.found md5 is (c.in_ok-digits.ensures.cases.0 ∙ digits_taken c.args.text.now md5 parts is e)))

pub returns-clause-spelled : goal.returns-clause-spelled
returns-clause-spelled c =
    IfSome_then c.tag_with.result c.tag_with.ensures.spelled (λ tag is.
    sym (take-append-drop 32 c.args.text.now)
    ∙ ap₂ (λ (a b : List ℕ). a ++ b) (sym c.in_ok-digits.ensures.cases.0 ∙ c.in_ok-read_digest.ensures.spelled) (sym c.in_ok-digits.ensures.cases.1)
    ∙ sym is)

pub returns-clause-found : goal.returns-clause-found
returns-clause-found c = λ md5 parts is are e.
    let there = c.tag_with.ensures.found parts are (c.in_ok-digits.ensures.cases.1 ∙ tail_dropped c.args.text.now md5 parts is e) in
    some_same c.tag_with.result c.args.text.now there (returns-clause-spelled c)
