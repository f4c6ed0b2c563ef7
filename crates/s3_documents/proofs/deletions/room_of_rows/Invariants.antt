use Rattle.std.proofs.Common.{◌+◌, Bool, List, Option, drop, length}
use Rattle.std.specs.List.{flat_map}
use Rattle.s3_names.specs.declared.ids.VersionId.{VersionId}
use Rattle.s3_deletions.specs.Deletions.{rows_told}
use Rattle.s3_xml.specs.Printed.{markup}
use Rattle.s3_documents.specs.Printed.{IsRoomFor}
use Rattle.s3_documents.specs.Xml.{deletion_events}
use Rattle.s3_documents.proofs.deletions.room_of_rows.Given as goal

-- it suffices, with that for the objects that are left
abbrev pub invariant-loop-object : goal.invariant-loop-object
invariant-loop-object l =
    (is_quiet : Bool) (markers : List (Option VersionId))
    → IsRoomFor (l.room + length (markup (flat_map (deletion_events is_quiet) (rows_told (drop l.object-index l.objects) (drop l.object-index markers)))))
    (length (markup (flat_map (deletion_events is_quiet) (rows_told l.objects markers))))
