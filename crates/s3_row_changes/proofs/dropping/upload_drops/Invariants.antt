use Rattle.std.proofs.Common.{◌≡◌, take}
use Rattle.s3_row_changes.specs.Dropping.{drops_parts}
use Rattle.s3_row_changes.proofs.dropping.upload_drops.Given as goal

-- the rows so far go
abbrev pub invariant-loop-part : goal.invariant-loop-part
invariant-loop-part l = l.changes.items ≡ drops_parts (take l.part-index l.part-items)
