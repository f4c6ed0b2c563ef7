use Rattle.std.proofs.Common.{refl, inr, sym, ap, ◌∙◌, if◌then◌else◌, Some, None}
use Rattle.json.specs.Value.{value_view}
use Rattle.s3_request_documents.specs.Data.{data_of, seen}
use Rattle.s3_request_documents.proofs.DataLemmas.{data_is}
use Rattle.s3_request_documents.proofs.TextLemmas.{json_of-text, json_of-none, json_of-bytes, some_read}
use Rattle.s3_request_documents.proofs.body.parsed.Goals as goal

pub returns-in_default-clause-refused : goal.returns-in_default-clause-refused
returns-in_default-clause-refused c = inr (refl, json_of-bytes c.args.body.now c.in_default.ensures.cases.0)

pub returns-then-not-is_in_range-clause-refused : goal.returns-then-not-is_in_range-clause-refused
returns-then-not-is_in_range-clause-refused c =
    let j = value_view c.in_ok-value.value in
    let none = c.in_ok-value.ensures.value ∙ data_is j ∙ ap (λ b. if b then Some (data_of j) else None) (sym c.is_in_range.ensures ∙ c.if-not-is_in_range.true) in
    inr (refl, json_of-none c.args.body.now c.in-Ok.text.now c.in-Ok.ensures.cases.0 none)

pub returns-clause-value : goal.returns-clause-value
returns-clause-value c =
    let j = value_view c.in_ok-value.value in
    let some = c.in_ok-value.ensures.value ∙ data_is j ∙ ap (λ b. if b then Some (data_of j) else None) (sym c.is_in_range.ensures ∙ c.if-not-is_in_range.false) in
    json_of-text c.args.body.now c.in-Ok.text.now (data_of j) c.in-Ok.ensures.cases.0 c.in-Ok.ensures.cases.1 some

pub returns-clause-some : goal.returns-clause-some
returns-clause-some c = some_read c.args.body.now (seen c.in_ok-value.value) (returns-clause-value c)
