use Rattle.std.proofs.Common.{arith, inr}
use Rattle.s3_request_documents.proofs.DeletionLemmas.{asked_nothing}
use Rattle.s3_request_documents.proofs.deletion.read_deletion.Goals as goal

pub returns-then-is_empty-clause-rule : goal.returns-then-is_empty-clause-rule
returns-then-is_empty-clause-rule c = inr (asked_nothing c.args.body.now (grind arith))
