use Rattle.std.proofs.Common.{◌≡◌, sym, ap, ◌∙◌, pos, Some, None, option_map}
use Rattle.std.proofs.lemmas.Result.{on_ok_weaker}
use Rattle.std.specs.Option.{option_copied}
use Rattle.s3_rows.specs.TableChanges.{version_put}
use Rattle.s3_stored_rows.specs.Changes.{version_columns, upload_columns}
use Rattle.s3_stored_rows.specs.Queries.{upload_of_id}
use Rattle.s3_row_steps.proofs.UploadStepLemmas.{none_to_drop, dropped_at}
use Rattle.s3_row_steps.proofs.uploads.put_replacing.Goals as goal

pub returns-in-Some-clause-ok : goal.returns-in-Some-clause-ok
returns-in-Some-clause-ok g c =
    let t = g.R.StoredRows.tables c.args.rows.now in
    let columns = upload_columns c.in-Some.upload.now.upload in
    let found : upload_of_id c.args.bucket.now c.args.key.now (pos c.args.id) t ≡ Some columns =
    sym (ap (λ o. option_map (λ u. upload_columns u.upload) (option_copied o)) (sym c.in-Some.is) ∙ c.requires.found) in
    on_ok_weaker c.complete.result
    (λ made. made ∙ dropped_at t (version_put (version_columns c.args.version) t) c.args.bucket.now c.args.key.now (pos c.args.id) columns found)
    c.complete.ensures.ok

pub returns-in-None-clause-ok : goal.returns-in-None-clause-ok
returns-in-None-clause-ok g c =
    let t = g.R.StoredRows.tables c.args.rows.now in
    let none : upload_of_id c.args.bucket.now c.args.key.now (pos c.args.id) t ≡ None =
    sym (ap (λ o. option_map (λ u. upload_columns u.upload) (option_copied o)) (sym c.in-None.is) ∙ c.requires.found) in
    on_ok_weaker c.put_version.result
    (λ made. made ∙ none_to_drop (version_put (version_columns c.args.version) t) c.args.bucket.now c.args.key.now (pos c.args.id) none)
    c.put_version.ensures.ok
