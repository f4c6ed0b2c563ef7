use Rattle.std.proofs.Common.{◌≡◌, ◌++◌, map, flat_map, reverse, vec_len}
use Rattle.s3_rows.specs.Soundness.{part_row}
use Rattle.s3_stored_rows.specs.Bodies.{part_numbers}
use Rattle.s3_stored_rows.specs.Changes.{part_columns}
use Rattle.s3_found_rows.specs.Fitting.{part_fits}
use Rattle.s3_found_rows.proofs.AlongLemmas.{IsAlong}
use Rattle.s3_found_rows.proofs.parts.put_parts.Given as goal

-- these of the rows that were found are left
abbrev pub invariant-loop-part : goal.invariant-loop-part
invariant-loop-part g l =
    let tables = g.R.StoredRows.tables in
    let found = map part_columns l.fn.found.items in
    let left = map part_columns (reverse l.left.items) in
    record {
      rows : tables l.rows ≡ record (tables l.initial.rows) { parts = (tables l.rows).parts };
      along : IsAlong part_row (part_fits (tables l.initial.rows).uploads) found l.last (tables l.rows).parts left;
      bodies : l.bodies.items ++ flat_map part_numbers left ≡ l.initial.bodies.items ++ flat_map part_numbers found;
    }

abbrev pub decreases-loop-part : goal.decreases-loop-part
decreases-loop-part g l = vec_len l.left
