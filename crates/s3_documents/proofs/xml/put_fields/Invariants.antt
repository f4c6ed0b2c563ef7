use Rattle.std.proofs.Common.{◌≡◌, ◌≤◌, ◌+◌, ◌++◌, drop, length}
use Rattle.s3_xml.specs.Printed.{markup}
use Rattle.s3_documents.specs.Printed.{fields_of}
use Rattle.s3_documents.specs.Xml.{fields_events}
use Rattle.s3_documents.proofs.xml.put_fields.Given as goal

-- what is printed, with the fields that are left, is all; and the room that is left suffices for these where it did for all
abbrev pub invariant-loop-field : goal.invariant-loop-field
invariant-loop-field l =
    (l.writer.bytes ++ markup (fields_events l.manner (fields_of (drop l.field-index l.fields))) ≡ l.initial.writer.bytes ++ markup (fields_events l.manner (fields_of l.fields)))
    × (l.initial.writer.spare + length (markup (fields_events l.manner (fields_of (drop l.field-index l.fields)))) ≤ l.writer.spare + length (markup (fields_events l.manner (fields_of l.fields))))
