use Rattle.std.proofs.Common.{◌≡◌, sym, ap, ◌∙◌, pos, Some, None, option_map}
use Rattle.std.proofs.lemmas.Result.{on_ok_weaker}
use Rattle.std.specs.Option.{option_copied}
use Rattle.s3_stored_rows.specs.Changes.{upload_columns}
use Rattle.s3_stored_rows.specs.Queries.{upload_of_id}
use Rattle.s3_row_steps.proofs.UploadStepLemmas.{none_to_drop, dropped_at, upload_drop_steps}
use Rattle.s3_row_steps.proofs.uploads.drop_upload.Goals as goal

pub returns-in-Some-clause-ok : goal.returns-in-Some-clause-ok
returns-in-Some-clause-ok g c =
    let t = g.R.StoredRows.tables c.args.rows.now in
    let columns = upload_columns c.in-Some.gone.now.upload in
    let found : upload_of_id c.args.bucket.now c.args.key.now (pos c.args.id) t ≡ Some columns =
    sym (ap (λ o. option_map (λ u. upload_columns u.upload) (option_copied o)) (sym c.in-Some.is) ∙ c.requires.found) in
    on_ok_weaker c.drop_upload.result
    (λ made. upload_drop_steps t c.args.next c.args.bucket.now c.args.key.now c.args.id _ c.requires.kept (made ∙ dropped_at t t c.args.bucket.now c.args.key.now (pos c.args.id) columns found))
    c.drop_upload.ensures.ok

pub returns-in-None-clause-ok : goal.returns-in-None-clause-ok
returns-in-None-clause-ok g c =
    let t = g.R.StoredRows.tables c.args.rows.now in
    let none : upload_of_id c.args.bucket.now c.args.key.now (pos c.args.id) t ≡ None =
    sym (ap (λ o. option_map (λ u. upload_columns u.upload) (option_copied o)) (sym c.in-None.is) ∙ c.requires.found) in
    upload_drop_steps t c.args.next c.args.bucket.now c.args.key.now c.args.id t c.requires.kept (none_to_drop t c.args.bucket.now c.args.key.now (pos c.args.id) none)
