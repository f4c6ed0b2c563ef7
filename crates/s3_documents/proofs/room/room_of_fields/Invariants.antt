use Rattle.std.proofs.Common.{◌+◌, drop, length}
use Rattle.s3_documents.specs.Printed.{fields_tokens, fields_of, room_of, IsRoomFor}
use Rattle.s3_documents.specs.Xml.{fields_events}
use Rattle.s3_xml.specs.Printed.{markup}
use Rattle.s3_documents.specs.declared.xml.Manner.{Manner}
use Rattle.s3_documents.proofs.room.room_of_fields.Given as goal

-- it suffices, with that for the fields that are left
abbrev pub invariant-loop-field : goal.invariant-loop-field
invariant-loop-field l =
    IsRoomFor (l.room + room_of (fields_tokens (fields_of (drop l.field-index l.fields)))) (room_of (fields_tokens (fields_of l.fields)))
    × ((manner : Manner) → IsRoomFor (l.room + length (markup (fields_events manner (fields_of (drop l.field-index l.fields))))) (length (markup (fields_events manner (fields_of l.fields)))))
