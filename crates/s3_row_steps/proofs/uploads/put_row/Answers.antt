use Rattle.std.proofs.Common.{◌∙◌}
use Rattle.std.specs.Option.{option_copied}
use Rattle.s3_stored_rows.specs.Queries.{upload_of_id}
use Rattle.s3_row_steps.proofs.UploadStepLemmas.{sent_in_rows}
use Rattle.s3_row_steps.proofs.uploads.put_row.Goals as goal

pub returns-clause-ok : goal.returns-clause-ok
returns-clause-ok g c =
    let t = g.R.StoredRows.tables c.args.rows.now in
    let upload = c.args.upload in (
      c.in_ok-put_upload.ensures.ok,
      c.in_ok-numbers.ensures ∙ sent_in_rows t (option_copied c.args.gone) (upload_of_id upload.bucket.items upload.key.items upload.id t) c.requires.found c.requires.rows,
    )
