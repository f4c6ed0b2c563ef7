use Rattle.std.proofs.Common.{◌≡◌, ◌++◌, map, reverse, vec_len}
use Rattle.s3_rows.specs.Soundness.{upload_row}
use Rattle.s3_stored_rows.specs.Changes.{upload_columns}
use Rattle.s3_found_rows.specs.Fitting.{upload_fits}
use Rattle.s3_found_rows.proofs.AlongLemmas.{IsAlong}
use Rattle.s3_found_rows.proofs.uploads.put_uploads.Given as goal

-- these of the rows that were found are left
abbrev pub invariant-loop-upload : goal.invariant-loop-upload
invariant-loop-upload g l =
    let tables = g.R.StoredRows.tables in
    let found = map upload_columns l.fn.found.items in
    let left = map upload_columns (reverse l.left.items) in
    record {
      rows : tables l.rows ≡ record (tables l.initial.rows) { uploads = (tables l.rows).uploads };
      along : IsAlong upload_row (upload_fits l.number (tables l.initial.rows).buckets) found l.last (tables l.rows).uploads left;
      rowids : l.rowids.items ++ map upload_row left ≡ l.initial.rowids.items ++ map upload_row found;
    }

abbrev pub decreases-loop-upload : goal.decreases-loop-upload
decreases-loop-upload g l = vec_len l.left
