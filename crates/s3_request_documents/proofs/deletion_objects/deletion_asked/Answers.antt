use Rattle.std.proofs.Common.{arith, inl}
use Rattle.s3_request_documents.proofs.DeletionRowLemmas.{key_memory}
use Rattle.s3_request_documents.proofs.deletion_objects.deletion_asked.Goals as goal

pub returns-in-Err : goal.returns-in-Err
returns-in-Err c = inl (key_memory c.args.key.now c.in-Err.code c.requires.key (omega arith) c.in-Err.ensures.rule)
