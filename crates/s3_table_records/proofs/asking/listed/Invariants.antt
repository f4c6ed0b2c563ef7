use Rattle.std.proofs.Common.{◌≡◌, take, map}
use Rattle.s3_rows.specs.ReadingLaws.{row_listed}
use Rattle.s3_stored_rows.specs.Changes.{bucket_columns}
use Rattle.s3_table_records.proofs.asking.listed.Given as goal

-- the buckets so far are told
abbrev pub invariant-loop-row : goal.invariant-loop-row
invariant-loop-row l = l.told.items ≡ map row_listed (map bucket_columns (take l.row-index l.rows))
