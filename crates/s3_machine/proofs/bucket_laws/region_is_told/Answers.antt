use Rattle.s3_machine.proofs.BucketLemmas.{region_is_told}
use Rattle.s3_machine.proofs.bucket_laws.region_is_told.Goals as goal

pub returns : goal.returns
returns c = region_is_told
