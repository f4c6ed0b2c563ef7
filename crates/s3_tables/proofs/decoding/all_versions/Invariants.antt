use Rattle.std.proofs.Common.{◌≡◌, map, take}
use Rattle.s3_stored_rows.specs.Changes.{version_columns}
use Rattle.s3_tables.specs.Reading.{version_shown}
use Rattle.s3_tables.proofs.decoding.all_versions.Given as goal

abbrev pub invariant-loop-row : goal.invariant-loop-row
invariant-loop-row l = map version_columns l.all.items ≡ map version_shown (take l.row-index l.rows)
