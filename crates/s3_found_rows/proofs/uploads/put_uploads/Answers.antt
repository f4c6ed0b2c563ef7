use Rattle.std.proofs.Common.{◌≡◌, refl, ap, [], ◌∷◌, ◌++◌, map, reverse, SFits, w64, to_z-of_z, rules}
use Rattle.s3_rows.specs.Soundness.{upload_row}
use Rattle.s3_stored_rows.specs.Changes.{upload_columns}
use Rattle.s3_found_rows.specs.Fitting.{upload_fits}
use Rattle.s3_found_rows.proofs.AlongLemmas.{unreversed, popped, along_start, mapped_step}
use Rattle.s3_found_rows.proofs.GrowLemmas.{uploads_grow}
use Rattle.s3_found_rows.proofs.StepLemmas.{upload_along, upload_before}
use Rattle.s3_found_rows.proofs.uploads.put_uploads.Goals as goal

pub put_upload-requires : goal.put_upload-requires
put_upload-requires g c =
    upload_before (g.R.StoredRows.tables c.args.rows.now) (g.R.StoredRows.tables c.loop-upload.rows) c.loop-upload.invariant.rows _ _ c.loop-upload.invariant.along.filled

pub loop-upload-init : goal.loop-upload-init
loop-upload-init g c =
    let first = g.R.StoredRows.tables c.args.rows.now in
    let left = unreversed upload_columns c.args.found.items c.reversed-left.result.items c.reversed-left.ensures in
    record {
      rows = refl;
      along = along_start upload_row (upload_fits _ first.buckets) (map upload_columns c.args.found.items) _ first.uploads _ c.requires left;
      rowids = ap (λ l. c.args.rowids.now.items ++ map upload_row l) left;
    }

pub loop-upload-preserved : goal.loop-upload-preserved
loop-upload-preserved g c =
    let tables = g.R.StoredRows.tables in
    let first = tables c.args.rows.now in
    let now = tables c.loop-upload.rows in
    let x = upload_columns c.in-Some.upload in
    let found = map upload_columns c.args.found.items in
    let left = map upload_columns (reverse c.loop-upload.left.items) in
    let rest = map upload_columns (reverse c.pop.new.self.items) in
    let step : left ≡ x ∷ rest = popped upload_columns c.loop-upload.left.items c.pop.new.self.items c.in-Some.upload c.in-Some.ensures.items in
    let put = c.in_ok-put_upload.ensures.rows in
    let row : SFits w64 c.in-Some.upload.row = search rules in
    let filled = c.in_ok-put_upload.ensures.filled in
    record {
      rows = uploads_grow first now _ (x ∷ []) c.loop-upload.invariant.rows put;
      along = upload_along first now c.loop-upload.invariant.rows _ _ _ _ x found left rest (to_z-of_z row) c.loop-upload.invariant.along step put filled;
      rowids = mapped_step upload_row c.args.rowids.now.items c.loop-upload.rowids.items _ found left rest x c.loop-upload.invariant.rowids step c.in_ok-put_upload.ensures.rowids;
    }
