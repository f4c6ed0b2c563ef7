use Rattle.std.proofs.Common.{sym, ap, ◌∙◌, Err}
use Rattle.json.specs.Reads.{opens}
use Rattle.s3_request_documents.proofs.TextLemmas.{some_opens}
use Rattle.s3_request_documents.proofs.body.tree.Goals as goal

pub returns-in-Err-OutOfMemory-clause-memory : goal.returns-in-Err-OutOfMemory-clause-memory
returns-in-Err-OutOfMemory-clause-memory c _ =
    some_opens c.args.text.now (ap opens (sym c.in-Ok.ensures.ok) ∙ c.read.ensures.memory (c.in-Err-OutOfMemory.is ∙ ap Err c.in-Err-OutOfMemory.field-0-is))
