use Rattle.s3_catalogue_laws.proofs.BucketLemmas.{buckets_are_listed, listed_buckets_are_there, names_rise, opening_is_listed, versioning_is_told}
use Rattle.s3_catalogue_laws.proofs.buckets.buckets_are_listed.Goals as goal

pub returns-clause-listed : goal.returns-clause-listed
returns-clause-listed g c = buckets_are_listed

pub returns-clause-there : goal.returns-clause-there
returns-clause-there g c = listed_buckets_are_there

pub returns-clause-once : goal.returns-clause-once
returns-clause-once g c = names_rise

pub returns-clause-versioning : goal.returns-clause-versioning
returns-clause-versioning g c = versioning_is_told

pub returns-clause-opening : goal.returns-clause-opening
returns-clause-opening g c = opening_is_listed _
