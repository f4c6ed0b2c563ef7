use Rattle.std.proofs.Common.{◌≡◌, false, map, take}
use Rattle.s3_records.specs.Rows.{version_row}
use Rattle.s3_rows.specs.Meaning.{version_of}
use Rattle.s3_stored_bodies.specs.Numbers.{Contents}
use Rattle.s3_stored_rows.specs.Bodies.{encoding}
use Rattle.s3_stored_rows.specs.Changes.{version_columns}
use Rattle.s3_stored_rows.specs.declared.rows.StoredVersion.{StoredVersion}
use Rattle.s3_row_lists.proofs.versions.older_told.Given as goal

-- those so far are told
abbrev pub invariant-loop-row : goal.invariant-loop-row
invariant-loop-row l = (contents : Contents) → l.told.items ≡ map (λ (v : StoredVersion). version_row v.key.items false (version_of (encoding contents) (version_columns v))) (take l.row-index l.found)
