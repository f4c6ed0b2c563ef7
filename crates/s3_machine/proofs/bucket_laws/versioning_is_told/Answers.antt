use Rattle.s3_machine.proofs.BucketLemmas.{versioning_is_told, new_buckets_are_unversioned}
use Rattle.s3_machine.proofs.bucket_laws.versioning_is_told.Goals as goal

pub returns : goal.returns
returns c =
    let rest = c.deletions_are_by_place.ensures.rest in
    record { told = versioning_is_told rest; unversioned = new_buckets_are_unversioned rest }
