use Rattle.s3_rows.proofs.UploadLawLemmas.{rows_complete_uploads}
use Rattle.s3_rows.proofs.laws.rows_complete_uploads.Goals as goal

pub returns : goal.returns
returns c = rows_complete_uploads c.changes_follow_rules.ensures.both
