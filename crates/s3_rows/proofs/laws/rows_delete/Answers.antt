use Rattle.s3_rows.proofs.VersionLawLemmas.{rows_delete}
use Rattle.s3_rows.proofs.laws.rows_delete.Goals as goal

pub returns : goal.returns
returns c = rows_delete
