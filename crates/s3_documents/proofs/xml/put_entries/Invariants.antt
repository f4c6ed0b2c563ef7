use Rattle.std.proofs.Common.{◌≡◌, ◌≤◌, ◌+◌, ◌++◌, drop, length}
use Rattle.std.specs.List.{flat_map}
use Rattle.s3_xml.specs.Printed.{markup}
use Rattle.s3_documents.proofs.xml.put_entries.Given as goal

-- what is printed, with the entries that are left, is all; and the room that is left suffices for these where it did for all
abbrev pub invariant-loop-entry : goal.invariant-loop-entry
invariant-loop-entry g l =
    (l.writer.bytes ++ markup (flat_map (g.E.Entry.events l.manner) (drop l.entry-index l.list)) ≡ l.initial.writer.bytes ++ markup (flat_map (g.E.Entry.events l.manner) l.list))
    × (l.initial.writer.spare + length (markup (flat_map (g.E.Entry.events l.manner) (drop l.entry-index l.list))) ≤ l.writer.spare + length (markup (flat_map (g.E.Entry.events l.manner) l.list)))
