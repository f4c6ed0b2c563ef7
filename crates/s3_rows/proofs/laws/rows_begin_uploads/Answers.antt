use Rattle.s3_rows.proofs.UploadBegunLemmas.{rows_begin_uploads}
use Rattle.s3_rows.proofs.laws.rows_begin_uploads.Goals as goal

pub returns : goal.returns
returns c = rows_begin_uploads
