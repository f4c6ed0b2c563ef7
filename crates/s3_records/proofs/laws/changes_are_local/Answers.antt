use Rattle.s3_records.proofs.LawLemmas.{changes_are_local, changes_name_one_key}
use Rattle.s3_records.proofs.laws.changes_are_local.Goals as goal

pub returns-clause-buckets : goal.returns-clause-buckets
returns-clause-buckets g c = changes_are_local

pub returns-clause-keys : goal.returns-clause-keys
returns-clause-keys g c = changes_name_one_key
