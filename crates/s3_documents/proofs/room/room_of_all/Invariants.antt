use Rattle.std.proofs.Common.{◌+◌, drop, map, length}
use Rattle.std.specs.List.{flat_map}
use Rattle.s3_documents.specs.Printed.{all_tokens, room_of, IsRoomFor}
use Rattle.s3_xml.specs.Printed.{markup}
use Rattle.s3_documents.specs.declared.xml.Manner.{Manner}
use Rattle.s3_documents.proofs.room.room_of_all.Given as goal

-- it suffices, with that for the rows that are left
abbrev pub invariant-loop-row : goal.invariant-loop-row
invariant-loop-row g l =
    IsRoomFor (l.room + room_of (all_tokens (map g.R.Row.told (drop l.row-index l.list)))) (room_of (all_tokens (map g.R.Row.told l.list)))
    × ((manner : Manner) → IsRoomFor (l.room + length (markup (flat_map (g.R.Entry.events manner) (drop l.row-index l.list)))) (length (markup (flat_map (g.R.Entry.events manner) l.list))))
