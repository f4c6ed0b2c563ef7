use Rattle.std.proofs.Common.{arith, inr, sym, ◌∙◌}
use Rattle.s3_request_documents.specs.Completion.{completion_in_xml}
use Rattle.s3_request_documents.specs.CompletionTold.{answered}
use Rattle.s3_request_documents.proofs.RowLemmas.{asked_nothing, asked_some, follows}
use Rattle.s3_request_documents.proofs.completion_xml.in_xml.Goals as goal

pub returns-then-is_empty-clause-rule : goal.returns-then-is_empty-clause-rule
returns-then-is_empty-clause-rule c = inr (asked_nothing c.args.body.now (grind arith))

pub returns-in-Ok-clause-rule : goal.returns-in-Ok-clause-rule
returns-in-Ok-clause-rule c =
    follows c.answered.result (completion_in_xml c.args.body.now)
    (asked_some c.args.body.now (answered c.in-Ok.told) c.in-Ok.ensures.told ∙ sym c.answered.ensures)
