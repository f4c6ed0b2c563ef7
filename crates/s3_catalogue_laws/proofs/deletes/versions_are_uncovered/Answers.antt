use Rattle.s3_catalogue_laws.proofs.DeleteLemmas.{drops_uncover, other_drops_keep_current, last_drops_empty}
use Rattle.s3_catalogue_laws.proofs.deletes.versions_are_uncovered.Goals as goal

pub returns-clause-uncovered : goal.returns-clause-uncovered
returns-clause-uncovered g c = drops_uncover c.changes_follow_rules.ensures.rules

pub returns-clause-emptied : goal.returns-clause-emptied
returns-clause-emptied g c = last_drops_empty c.changes_follow_rules.ensures.rules c.versions_stay_in_order.ensures.stay c.changes_are_local.ensures.buckets

pub returns-clause-kept : goal.returns-clause-kept
returns-clause-kept g c = other_drops_keep_current c.changes_follow_rules.ensures.rules
