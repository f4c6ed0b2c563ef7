use Rattle.std.proofs.Common.{◌≡◌, sym, ap, ap₂, ◌∙◌, pos, take, Some, option_map, SFits, w64, to_z-of_z, rules}
use Rattle.s3_stored_rows.specs.Changes.{upload_columns}
use Rattle.s3_stored_rows.specs.Queries.{upload_of_id, parts_above}
use Rattle.s3_row_changes.proofs.PartLemmas.{are_rows}
use Rattle.s3_row_changes.proofs.uploads.upload_rows.Goals as goal

pub returns-clause-rows : goal.returns-clause-rows
returns-clause-rows g c =
    let t = g.R.StoredRows.tables c.args.rows.now in
    let upload = c.in-Some.upload in
    let row : SFits w64 upload.row = search rules in
    let found : upload_of_id c.args.bucket.now c.args.key.now c.args.id t ≡ Some (upload_columns upload) =
    sym (ap (option_map upload_columns) (sym c.in-Some.is) ∙ c.in_ok-upload.ensures.value ∙ ap (λ id. upload_of_id c.args.bucket.now c.args.key.now id t) (to_z-of_z c.ranges.id)) in
    are_rows t c.args.bucket.now c.args.key.now c.args.id (record { upload = upload; parts = c.in_ok-parts.parts }) c.requires.sound found
    (c.in_ok-parts.ensures.value ∙ ap₂ (λ r u. take 10000 (parts_above r (pos 0) u)) (to_z-of_z row) c.upload.ensures.same)
