use Rattle.s3_catalogue_laws.proofs.BucketLemmas.{made_buckets_are_new, dropped_buckets_are_gone, other_buckets_stay, changes_are_told, switches_are_told}
use Rattle.s3_catalogue_laws.proofs.buckets.buckets_come_and_go.Goals as goal

pub returns-clause-made : goal.returns-clause-made
returns-clause-made g c = made_buckets_are_new

pub returns-clause-dropped : goal.returns-clause-dropped
returns-clause-dropped g c = dropped_buckets_are_gone

pub returns-clause-others : goal.returns-clause-others
returns-clause-others g c = other_buckets_stay c.changes_are_local.ensures.buckets

pub returns-clause-told : goal.returns-clause-told
returns-clause-told g c = changes_are_told

pub returns-clause-switched : goal.returns-clause-switched
returns-clause-switched g c = switches_are_told
