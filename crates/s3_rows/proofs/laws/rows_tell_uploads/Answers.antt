use Rattle.s3_rows.proofs.ReadingLemmas.{rows_tell_upload, rows_tell_parts}
use Rattle.s3_rows.proofs.laws.rows_tell_uploads.Goals as goal

pub returns-clause-one : goal.returns-clause-one
returns-clause-one c = rows_tell_upload

pub returns-clause-parts : goal.returns-clause-parts
returns-clause-parts c = rows_tell_parts
