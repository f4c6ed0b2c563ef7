use Rattle.s3_rows.proofs.VersionLawLemmas.{rows_put_versions}
use Rattle.s3_rows.proofs.laws.rows_put_versions.Goals as goal

pub returns : goal.returns
returns c = rows_put_versions
