use Rattle.std.proofs.Common.{◌≡◌, map, take}
use Rattle.s3_rows.specs.ListLaws.{part_told}
use Rattle.s3_stored_bodies.specs.Numbers.{Contents}
use Rattle.s3_stored_rows.specs.Bodies.{encoding}
use Rattle.s3_stored_rows.specs.Changes.{part_columns}
use Rattle.s3_stored_rows.specs.declared.rows.StoredPart.{StoredPart}
use Rattle.s3_row_lists.proofs.parts.parts_told.Given as goal

-- those so far are told
abbrev pub invariant-loop-row : goal.invariant-loop-row
invariant-loop-row l = (contents : Contents) → l.told.items ≡ map (λ (p : StoredPart). part_told (encoding contents) (part_columns p)) (take l.row-index l.found)
