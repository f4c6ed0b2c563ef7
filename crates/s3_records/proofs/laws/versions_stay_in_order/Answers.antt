use Rattle.s3_records.proofs.LawLemmas.{versions_stay_in_order, opening_is_empty}
use Rattle.s3_records.proofs.laws.versions_stay_in_order.Goals as goal

pub returns-clause-stay : goal.returns-clause-stay
returns-clause-stay g c = versions_stay_in_order c.stay_versions.ensures.leave

pub returns-clause-opening : goal.returns-clause-opening
returns-clause-opening g c = opening_is_empty
