use Rattle.s3_rows.proofs.KeyListLemmas.{rows_list_keys}
use Rattle.s3_rows.proofs.VersionListLemmas.{rows_list_versions}
use Rattle.s3_rows.proofs.laws.rows_list_versions.Goals as goal

pub returns-clause-versions : goal.returns-clause-versions
returns-clause-versions c = rows_list_versions

pub returns-clause-keys : goal.returns-clause-keys
returns-clause-keys c = rows_list_keys
