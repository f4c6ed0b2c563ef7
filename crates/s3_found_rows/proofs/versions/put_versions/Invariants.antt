use Rattle.std.proofs.Common.{◌≡◌, ◌++◌, map, flat_map, reverse, vec_len}
use Rattle.s3_rows.specs.Soundness.{version_row}
use Rattle.s3_stored_rows.specs.Bodies.{version_numbers}
use Rattle.s3_stored_rows.specs.Changes.{version_columns}
use Rattle.s3_found_rows.specs.Fitting.{version_fits}
use Rattle.s3_found_rows.proofs.AlongLemmas.{IsAlong}
use Rattle.s3_found_rows.proofs.versions.put_versions.Given as goal

-- these of the rows that were found are left
abbrev pub invariant-loop-version : goal.invariant-loop-version
invariant-loop-version g l =
    let tables = g.R.StoredRows.tables in
    let found = map version_columns l.fn.found.items in
    let left = map version_columns (reverse l.left.items) in
    record {
      rows : tables l.rows ≡ record (tables l.initial.rows) { versions = (tables l.rows).versions };
      along : IsAlong version_row (version_fits l.number (tables l.initial.rows).buckets) found l.last (tables l.rows).versions left;
      bodies : l.bodies.items ++ flat_map version_numbers left ≡ l.initial.bodies.items ++ flat_map version_numbers found;
    }

abbrev pub decreases-loop-version : goal.decreases-loop-version
decreases-loop-version g l = vec_len l.left
