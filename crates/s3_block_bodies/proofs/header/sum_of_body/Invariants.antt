use Rattle.std.proofs.Common.{◌≤◌, ◌-◌, length, take}
use Rattle.s3_checksums.specs.Hashers.{HoldsCrc64Nvme}
use Rattle.s3_block_bodies.proofs.header.sum_of_body.Given as goal

-- the bytes up to the place were taken in
abbrev pub invariant-loop-at : goal.invariant-loop-at
invariant-loop-at l = record {
  inside : l.at ≤ length l.body;
  holds : HoldsCrc64Nvme l.hasher (take l.at l.body);
}

abbrev pub decreases-loop-at : goal.decreases-loop-at
decreases-loop-at l = length l.body - l.at
