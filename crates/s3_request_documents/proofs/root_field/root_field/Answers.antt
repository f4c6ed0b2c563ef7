use Rattle.std.proofs.Common.{arith, refl, inr}
use Rattle.s3_request_documents.proofs.FieldLemmas.{asked_nothing}
use Rattle.s3_request_documents.proofs.root_field.root_field.Goals as goal

pub returns-then-is_empty-clause-refused : goal.returns-then-is_empty-clause-refused
returns-then-is_empty-clause-refused c = inr (refl, asked_nothing c.args.root.now c.args.name.now c.args.body.now (grind arith))
