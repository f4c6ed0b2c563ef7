use Rattle.std.proofs.Common.{refl, to_z-of_z}
use Rattle.s3_rows.specs.Soundness.{part_row}
use Rattle.s3_stored_rows.specs.Changes.{part_columns}
use Rattle.s3_found_rows.specs.Fitting.{part_fits}
use Rattle.s3_found_rows.proofs.LastLemmas.{less_test, filled_more}
use Rattle.s3_found_rows.proofs.PutLemmas.{part_put}
use Rattle.s3_found_rows.proofs.parts.put_part.Goals as goal

pub returns-clause-rows : goal.returns-clause-rows
returns-clause-rows g c =
    let t = g.R.StoredRows.tables c.args.rows.now in
    let later = rw (to_z-of_z c.ranges.last) at c.in_ok-check_part.ensures.later in
    part_put t t _ c.args.last refl (part_fits t.uploads) (part_columns c.args.part) c.in_ok-apply.ensures.ok c.requires.filled later

pub returns-clause-filled : goal.returns-clause-filled
returns-clause-filled g c =
    let t = g.R.StoredRows.tables c.args.rows.now in
    let later = rw (to_z-of_z c.ranges.last) at c.in_ok-check_part.ensures.later in
    let fit = c.in_ok-check_part.ensures.fits t.uploads c.requires.uploads in
    filled_more part_row (part_fits t.uploads) t.parts (part_columns c.args.part) c.args.last c.requires.filled (less_test c.args.last c.args.part.row later) fit
