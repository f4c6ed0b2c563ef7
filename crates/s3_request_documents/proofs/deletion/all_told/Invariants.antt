use Rattle.std.proofs.Common.{◌≡◌}
use Rattle.s3_request_documents.specs.Deletion.{deletion_read}
use Rattle.s3_request_documents.proofs.DeletionLemmas.{read_from}
use Rattle.s3_request_documents.proofs.deletion.all_told.Given as goal

-- what is answered with the elements that are left is what the body asks for
abbrev pub invariant-loop-told : goal.invariant-loop-told
invariant-loop-told l = read_from l.told l.reader.elements ≡ deletion_read l.fn.body

abbrev pub decreases-loop-told : goal.decreases-loop-told
decreases-loop-told l = l.reader.unread
