use Rattle.s3_records.proofs.DeletionLawLemmas.{deletions_stay_below, next_stays_below, deletions_stay_in_order, deletions_stay_filled}
use Rattle.s3_records.proofs.laws.deletions_stay_in_order.Goals as goal

pub returns-clause-below : goal.returns-clause-below
returns-clause-below g c = deletions_stay_below c.stay_versions.ensures.new

pub returns-clause-next : goal.returns-clause-next
returns-clause-next g c = next_stays_below c.stay_versions.ensures.new c.stay_versions.ensures.later

pub returns-clause-order : goal.returns-clause-order
returns-clause-order g c = deletions_stay_in_order c.stay_versions.ensures.leave c.stay_versions.ensures.new c.stay_versions.ensures.later

pub returns-clause-filled : goal.returns-clause-filled
returns-clause-filled g c = deletions_stay_filled
