use Rattle.s3_rows.proofs.ReadingLemmas.{rows_tell_versions, rows_tell_current, rows_tell_version}
use Rattle.s3_rows.proofs.laws.rows_tell_versions.Goals as goal

pub returns-clause-all : goal.returns-clause-all
returns-clause-all c = rows_tell_versions

pub returns-clause-current : goal.returns-clause-current
returns-clause-current c = rows_tell_current

pub returns-clause-one : goal.returns-clause-one
returns-clause-one c = rows_tell_version
