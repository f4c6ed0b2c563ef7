use Rattle.s3_catalogue_laws.proofs.RunLemmas.{made_buckets_stay, dropped_buckets_stay_gone, set_versioning_stays, filled_buckets_are_kept}
use Rattle.s3_catalogue_laws.proofs.runs.buckets_stay_until_dropped.Goals as goal

pub returns-clause-made : goal.returns-clause-made
returns-clause-made g c = made_buckets_stay c.changes_are_local.ensures.buckets

pub returns-clause-dropped : goal.returns-clause-dropped
returns-clause-dropped g c = dropped_buckets_stay_gone c.changes_are_local.ensures.buckets

pub returns-clause-versioning : goal.returns-clause-versioning
returns-clause-versioning g c = set_versioning_stays c.changes_are_local.ensures.buckets

pub returns-clause-filled : goal.returns-clause-filled
returns-clause-filled g c = filled_buckets_are_kept c.empty_has_nothing.ensures.nothing
