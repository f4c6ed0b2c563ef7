use Rattle.s3_machine.proofs.BucketLemmas.{full_buckets_stay, empty_buckets_are_dropped}
use Rattle.s3_machine.proofs.bucket_laws.full_buckets_stay.Goals as goal

pub returns : goal.returns
returns c = record {
  full = full_buckets_stay c.empty_has_nothing.ensures.nothing c.steps_keep.ensures.quiet;
  empty = empty_buckets_are_dropped c.empty_has_nothing.ensures.something c.histories_leave_sound_bases.ensures.left;
}
