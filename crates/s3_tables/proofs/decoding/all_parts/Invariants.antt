use Rattle.std.proofs.Common.{◌≡◌, map, take}
use Rattle.s3_stored_rows.specs.Changes.{part_columns}
use Rattle.s3_tables.specs.Reading.{part_shown}
use Rattle.s3_tables.proofs.decoding.all_parts.Given as goal

abbrev pub invariant-loop-row : goal.invariant-loop-row
invariant-loop-row l = map part_columns l.all.items ≡ map part_shown (take l.row-index l.rows)
