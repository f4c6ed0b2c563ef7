use Rattle.std.proofs.Common.{◌≡◌, map, take}
use Rattle.s3_stored_rows.specs.Changes.{bucket_columns}
use Rattle.s3_tables.specs.Reading.{bucket_shown}
use Rattle.s3_tables.proofs.decoding.all_buckets.Given as goal

abbrev pub invariant-loop-row : goal.invariant-loop-row
invariant-loop-row l = map bucket_columns l.all.items ≡ map bucket_shown (take l.row-index l.rows)
