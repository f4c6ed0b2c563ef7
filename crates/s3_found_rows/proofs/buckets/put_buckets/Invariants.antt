use Rattle.std.proofs.Common.{◌≡◌, map, reverse, vec_len}
use Rattle.s3_rows.specs.Soundness.{bucket_row, is_bucket_row}
use Rattle.s3_stored_rows.specs.Changes.{bucket_columns}
use Rattle.s3_found_rows.proofs.AlongLemmas.{IsAlong}
use Rattle.s3_found_rows.proofs.buckets.put_buckets.Given as goal

-- these of the rows that were found are left
abbrev pub invariant-loop-bucket : goal.invariant-loop-bucket
invariant-loop-bucket g l =
    let tables = g.R.StoredRows.tables in
    let found = map bucket_columns l.fn.found.items in
    let left = map bucket_columns (reverse l.left.items) in
    record {
      rows : tables l.rows ≡ record (tables l.initial.rows) { buckets = (tables l.rows).buckets };
      along : IsAlong bucket_row is_bucket_row found l.last (tables l.rows).buckets left;
    }

abbrev pub decreases-loop-bucket : goal.decreases-loop-bucket
decreases-loop-bucket g l = vec_len l.left
