use Rattle.std.proofs.Common.{◌≡◌, map, take}
use Rattle.s3_stored_rows.specs.Changes.{store_columns}
use Rattle.s3_tables.specs.Reading.{store_shown}
use Rattle.s3_tables.proofs.decoding.all_stores.Given as goal

abbrev pub invariant-loop-row : goal.invariant-loop-row
invariant-loop-row l = map store_columns l.all.items ≡ map store_shown (take l.row-index l.rows)
