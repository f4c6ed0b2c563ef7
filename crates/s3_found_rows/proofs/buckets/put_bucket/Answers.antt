use Rattle.std.proofs.Common.{refl, to_z-of_z}
use Rattle.s3_rows.specs.Soundness.{bucket_row, is_bucket_row}
use Rattle.s3_stored_rows.specs.Changes.{bucket_columns}
use Rattle.s3_found_rows.proofs.LastLemmas.{less_test, filled_more}
use Rattle.s3_found_rows.proofs.PutLemmas.{bucket_put}
use Rattle.s3_found_rows.proofs.buckets.put_bucket.Goals as goal

pub returns-clause-rows : goal.returns-clause-rows
returns-clause-rows g c =
    let t = g.R.StoredRows.tables c.args.rows.now in
    let later = rw (to_z-of_z c.ranges.last) at c.in_ok-check_bucket.ensures.later in
    bucket_put t t _ c.args.last refl is_bucket_row (bucket_columns c.args.bucket) c.in_ok-apply.ensures.ok c.requires later

pub returns-clause-filled : goal.returns-clause-filled
returns-clause-filled g c =
    let t = g.R.StoredRows.tables c.args.rows.now in
    let later = rw (to_z-of_z c.ranges.last) at c.in_ok-check_bucket.ensures.later in
    let fit = c.in_ok-check_bucket.ensures.fits in
    filled_more bucket_row is_bucket_row t.buckets (bucket_columns c.args.bucket) c.args.last c.requires (less_test c.args.last c.args.bucket.row later) fit
