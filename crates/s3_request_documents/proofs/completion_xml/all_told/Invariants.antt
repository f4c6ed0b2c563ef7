use Rattle.std.proofs.Common.{◌≡◌}
use Rattle.std.specs.Prelude.{option_map}
use Rattle.s3_xml.specs.Ended.{elements_of}
use Rattle.s3_request_documents.specs.CompletionTold.{completion_of, answered}
use Rattle.s3_request_documents.proofs.RowLemmas.{told_by}
use Rattle.s3_request_documents.proofs.completion_xml.all_told.Given as goal

-- what is answered with the elements that are left is what all ask for
abbrev pub invariant-loop-told : goal.invariant-loop-told
invariant-loop-told l = option_map (λ elements. answered (told_by l.told elements)) l.reader.elements ≡ option_map completion_of (elements_of l.fn.body)

abbrev pub decreases-loop-told : goal.decreases-loop-told
decreases-loop-told l = l.reader.unread
