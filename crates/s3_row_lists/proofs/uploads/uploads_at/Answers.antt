use Rattle.std.proofs.Common.{◌∙◌}
use Rattle.std.proofs.lemmas.Result.{IfOk-weaker}
use Rattle.s3_rows.specs.ListLaws.{upload_listed}
use Rattle.s3_stored_rows.specs.Changes.{upload_columns}
use Rattle.s3_row_lists.proofs.CutLemmas.{found_told}
use Rattle.s3_row_lists.proofs.StartLemmas.{from_uploads}
use Rattle.s3_row_lists.proofs.uploads.uploads_at.Goals as goal

pub returns-clause-value : goal.returns-clause-value
returns-clause-value g c =
    IfOk-weaker c.uploads_told.result _ _
    (λ told is. is ∙ found_told upload_listed upload_columns c.in_ok-limit.limit c.args.most c.in_ok-found.found.items c.deref.result.now (from_uploads c.args.bucket.now c.args.start.now (g.R.StoredRows.tables c.args.rows.now))
    c.in_ok-limit.ensures c.deref.ensures.value c.in_ok-found.ensures.value)
    c.uploads_told.ensures
