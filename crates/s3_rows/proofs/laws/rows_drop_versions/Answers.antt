use Rattle.s3_rows.proofs.VersionLawLemmas.{rows_drop_versions}
use Rattle.s3_rows.proofs.laws.rows_drop_versions.Goals as goal

pub returns : goal.returns
returns c = rows_drop_versions
