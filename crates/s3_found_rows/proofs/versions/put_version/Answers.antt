use Rattle.std.proofs.Common.{to_z-of_z}
use Rattle.s3_rows.specs.Soundness.{version_row}
use Rattle.s3_stored_rows.specs.Changes.{version_columns}
use Rattle.s3_found_rows.specs.Fitting.{version_fits}
use Rattle.s3_found_rows.proofs.LastLemmas.{less_test, filled_more}
use Rattle.s3_found_rows.proofs.PutLemmas.{version_put}
use Rattle.s3_found_rows.proofs.versions.put_version.Goals as goal

pub returns-clause-rows : goal.returns-clause-rows
returns-clause-rows g c =
    let t = g.R.StoredRows.tables c.args.rows.now in
    let later = rw (to_z-of_z c.ranges.last) at c.in_ok-check_version.ensures.later in
    version_put t (g.R.StoredRows.tables c.check_version.new.rows) _ c.args.last c.in_ok-check_version.ensures.same (version_fits c.args.number t.buckets) (version_columns c.args.version) c.in_ok-apply.ensures.ok c.requires later

pub returns-clause-filled : goal.returns-clause-filled
returns-clause-filled g c =
    let t = g.R.StoredRows.tables c.args.rows.now in
    let later = rw (to_z-of_z c.ranges.last) at c.in_ok-check_version.ensures.later in
    let fit = rw (to_z-of_z c.ranges.number) at c.in_ok-check_version.ensures.fits in
    filled_more version_row (version_fits c.args.number t.buckets) t.versions (version_columns c.args.version) c.args.last c.requires (less_test c.args.last c.args.version.row later) fit
