use Rattle.s3_records.proofs.DeletionLawLemmas.{deletions_are_by_place, deletions_keep_the_rest, deletions_delete}
use Rattle.s3_records.proofs.laws.deletions_are_by_place.Goals as goal

pub returns-clause-places : goal.returns-clause-places
returns-clause-places g c = deletions_are_by_place c.one_id_changes.ensures.changes

pub returns-clause-rest : goal.returns-clause-rest
returns-clause-rest g c = deletions_keep_the_rest

pub returns-clause-gone : goal.returns-clause-gone
returns-clause-gone g c = deletions_delete c.one_id_changes.ensures.changes c.stay_versions.ensures.new
