use Rattle.s3_catalogue_laws.proofs.DeleteLemmas.{enabled_markers_are_undone, suspended_markers_are_undone}
use Rattle.s3_catalogue_laws.proofs.deletes.markers_are_undone.Goals as goal

pub returns-clause-enabled : goal.returns-clause-enabled
returns-clause-enabled g c = enabled_markers_are_undone c.changes_follow_rules.ensures.rules

pub returns-clause-suspended : goal.returns-clause-suspended
returns-clause-suspended g c = suspended_markers_are_undone c.changes_follow_rules.ensures.rules
