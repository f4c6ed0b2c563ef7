use Rattle.std.proofs.Common.{◌≡◌}
use Rattle.std.specs.Prelude.{option_map}
use Rattle.s3_xml.specs.Ended.{elements_of}
use Rattle.s3_request_documents.specs.FieldTold.{told_of}
use Rattle.s3_request_documents.proofs.FieldLemmas.{told_by}
use Rattle.s3_request_documents.proofs.root_field.all_told.Given as goal

-- what is told with the elements that are left is what all tell
abbrev pub invariant-loop-told : goal.invariant-loop-told
invariant-loop-told l = option_map (told_by l.root l.name l.told) l.reader.elements ≡ option_map (told_of l.root l.name) (elements_of l.fn.body)

abbrev pub decreases-loop-told : goal.decreases-loop-told
decreases-loop-told l = l.reader.unread
