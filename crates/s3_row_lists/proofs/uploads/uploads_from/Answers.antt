use Rattle.std.proofs.Common.{◌∙◌}
use Rattle.std.proofs.lemmas.Result.{IfOk-weaker}
use Rattle.s3_stored_rows.specs.Bodies.{encoding}
use Rattle.s3_row_lists.proofs.UploadLemmas.{listed_at, listed_past}
use Rattle.s3_row_lists.proofs.uploads.uploads_from.Goals as goal

pub returns-in-At-clause-value : goal.returns-in-At-clause-value
returns-in-At-clause-value g c = λ contents.
    IfOk-weaker c.uploads_at.result _ _
    (λ told is. is ∙ listed_at (encoding contents) (g.R.StoredRows.tables c.args.rows.now) c.args.bucket.now c.as_bytes.result.now c.in-At.start c.args.start.now c.args.most c.requires c.as_bytes.ensures.value c.in-At.is)
    c.uploads_at.ensures.value

pub returns-in-BehindUpload-clause-value : goal.returns-in-BehindUpload-clause-value
returns-in-BehindUpload-clause-value g c = λ contents.
    IfOk-weaker c.uploads_past.result _ _
    (λ told is. is ∙ listed_past (encoding contents) (g.R.StoredRows.tables c.args.rows.now) c.args.bucket.now c.in-BehindUpload.key c.as_bytes-bucket.result.now c.as_bytes-in-BehindUpload.result.now c.in-BehindUpload.id c.number.result c.args.start.now c.args.most
    c.requires c.as_bytes-bucket.ensures.value c.as_bytes-in-BehindUpload.ensures.value c.number.ensures.value c.in-BehindUpload.is)
    c.uploads_past.ensures.value
