use Rattle.s3_records.proofs.UploadLawLemmas.{changes_are_by_upload}
use Rattle.s3_records.proofs.laws.changes_are_by_upload.Goals as goal

pub returns : goal.returns
returns g c = changes_are_by_upload
