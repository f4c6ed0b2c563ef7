use Rattle.std.proofs.Common.{ap, ◌∙◌, SFits, w64, to_z-of_z, rules}
use Rattle.std.proofs.lemmas.Result.{IfOk-weaker}
use Rattle.s3_rows.specs.Columns.{Tables}
use Rattle.s3_rows.specs.TableChanges.{upload_put}
use Rattle.s3_stored_rows.specs.Changes.{upload_columns}
use Rattle.s3_stored_rows.specs.Queries.{upload_of_id}
use Rattle.s3_row_changes.specs.Trading.{sent_numbers}
use Rattle.s3_row_steps.proofs.KeepingLemmas.{small_id}
use Rattle.s3_row_steps.proofs.UploadStepLemmas.{upload_add_steps}
use Rattle.s3_row_steps.proofs.uploads.add_upload.Goals as goal

pub returns-clause-ok : goal.returns-clause-ok
returns-clause-ok g c =
    let t = g.R.StoredRows.tables c.args.rows.now in
    let row = upload_columns c.in_ok-upload.upload in
    let fits : SFits w64 row.id = search rules in
    IfOk-weaker c.put_row.result _ _
    (λ numbers put.
    upload_add_steps t c.args.next c.args.bucket.now c.args.key.now c.args.id row _ c.args.upload.now
    c.requires.kept c.requires.there c.requires.begins (to_z-of_z c.ranges.next) c.in_ok-upload.ensures (small_id row.id fits)
    numbers.items (put.1 ∙ ap (λ (s : Tables). sent_numbers s (upload_of_id row.bucket row.key row.id s)) c.in_ok-gone.ensures.same)
    _ (put.0 ∙ ap (upload_put row) c.in_ok-gone.ensures.same))
    c.put_row.ensures.ok
