use Rattle.s3_rows.proofs.VersionLawLemmas.{rows_mark}
use Rattle.s3_rows.proofs.laws.rows_mark.Goals as goal

pub returns : goal.returns
returns c = rows_mark
