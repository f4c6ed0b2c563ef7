use Rattle.s3_versions.proofs.LawLemmas.{one_under_each_id}
use Rattle.s3_versions.proofs.laws.ids_differ.Goals as goal

pub returns-clause-one : goal.returns-clause-one
returns-clause-one g c = one_under_each_id
