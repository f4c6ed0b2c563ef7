use Rattle.std.proofs.Common.{◌≡◌, map, take}
use Rattle.s3_stored_rows.specs.Changes.{upload_columns}
use Rattle.s3_tables.specs.Reading.{upload_shown}
use Rattle.s3_tables.proofs.decoding.all_uploads.Given as goal

abbrev pub invariant-loop-row : goal.invariant-loop-row
invariant-loop-row l = map upload_columns l.all.items ≡ map upload_shown (take l.row-index l.rows)
