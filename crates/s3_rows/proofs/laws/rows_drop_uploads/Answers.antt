use Rattle.s3_rows.proofs.UploadLawLemmas.{rows_drop_uploads}
use Rattle.s3_rows.proofs.laws.rows_drop_uploads.Goals as goal

pub returns : goal.returns
returns c = rows_drop_uploads
