use Rattle.s3_catalogue_laws.proofs.OrderlyLemmas.{changes_keep_order, deletions_keep_order, opening_is_orderly}
use Rattle.s3_catalogue_laws.proofs.orderly.catalogues_stay_orderly.Goals as goal

pub returns-clause-changes : goal.returns-clause-changes
returns-clause-changes g c = changes_keep_order c.versions_stay_in_order.ensures.stay c.changes_are_local.ensures.buckets

pub returns-clause-deletions : goal.returns-clause-deletions
returns-clause-deletions g c = deletions_keep_order c.deletions_stay_in_order.ensures.order c.changes_are_local.ensures.buckets

pub returns-clause-opening : goal.returns-clause-opening
returns-clause-opening g c = opening_is_orderly c.versions_stay_in_order.ensures.opening
