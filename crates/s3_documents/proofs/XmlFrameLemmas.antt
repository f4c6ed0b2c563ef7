-- What stands round the events of a document.
use Rattle.std.proofs.Common.{◌≤◌, ◌+◌, length, arith, Result, Ok, Err, OnErr}
use Rattle.s3_xml.specs.Printed.{event_text}
use Rattle.s3_xml.specs.Events.{end}
use Rattle.s3_xml.specs.Writer.{opening}
use Rattle.s3_documents.specs.Document.{Document, buckets, objects, versions, uploads, parts, begun, completed, deletions, copied, part_copied, versioning, location, tags, error}
use Rattle.s3_documents.specs.Xml.{root_of, namespace_of}

pub frame_room : (document : Document) → length (opening (root_of document) (namespace_of document)) + length (event_text (end (root_of document))) ≤ 192
unfolding opening
frame_room (buckets list) = omega arith
frame_room (objects name asked page) = omega arith
frame_room (versions name asked page) = omega arith
frame_room (uploads name asked page) = omega arith
frame_room (parts bucket key id asked page) = omega arith
frame_room (begun bucket key id) = omega arith
frame_room (completed bucket key tag) = omega arith
frame_room (deletions is_quiet rows) = omega arith
frame_room (copied tag made) = omega arith
frame_room (part_copied tag made) = omega arith
frame_room (versioning state) = omega arith
frame_room (location region) = omega arith
frame_room tags = omega arith
frame_room (error code number) = omega arith

-- what follows from what is known of an error
pub of_error : {A E P Q : Type 0} (r : Result A E) → (P → Q) → OnErr r P → OnErr r Q
of_error (Ok value) implied is = tt
of_error (Err e) implied is = implied is
