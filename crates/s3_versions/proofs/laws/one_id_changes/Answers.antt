use Rattle.s3_versions.proofs.LawLemmas.{changes_are_under_one_id, sum_of_what_goes}
use Rattle.s3_versions.proofs.laws.one_id_changes.Goals as goal

pub returns-clause-changes : goal.returns-clause-changes
returns-clause-changes g c = changes_are_under_one_id

pub returns-clause-sum : goal.returns-clause-sum
returns-clause-sum g c = sum_of_what_goes
