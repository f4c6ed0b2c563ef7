use Rattle.std.proofs.Common.{to_z-of_z}
use Rattle.s3_rows.specs.Soundness.{upload_row}
use Rattle.s3_stored_rows.specs.Changes.{upload_columns}
use Rattle.s3_found_rows.specs.Fitting.{upload_fits}
use Rattle.s3_found_rows.proofs.LastLemmas.{less_test, filled_more}
use Rattle.s3_found_rows.proofs.PutLemmas.{upload_put}
use Rattle.s3_found_rows.proofs.uploads.put_upload.Goals as goal

pub returns-clause-rows : goal.returns-clause-rows
returns-clause-rows g c =
    let t = g.R.StoredRows.tables c.args.rows.now in
    let later = rw (to_z-of_z c.ranges.last) at c.in_ok-check_upload.ensures.later in
    upload_put t (g.R.StoredRows.tables c.check_upload.new.rows) _ c.args.last c.in_ok-check_upload.ensures.same (upload_fits c.args.number t.buckets) (upload_columns c.args.upload) c.in_ok-apply.ensures.ok c.requires later

pub returns-clause-filled : goal.returns-clause-filled
returns-clause-filled g c =
    let t = g.R.StoredRows.tables c.args.rows.now in
    let later = rw (to_z-of_z c.ranges.last) at c.in_ok-check_upload.ensures.later in
    let fit = rw (to_z-of_z c.ranges.number) at c.in_ok-check_upload.ensures.fits in
    filled_more upload_row (upload_fits c.args.number t.buckets) t.uploads (upload_columns c.args.upload) c.args.last c.requires (less_test c.args.last c.args.upload.row later) fit
