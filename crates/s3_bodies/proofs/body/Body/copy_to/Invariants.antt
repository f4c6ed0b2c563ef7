use Rattle.std.proofs.Common.{◌≡◌, ◌≤◌, ◌-◌, ◌++◌, length, take, drop}
use Rattle.std.specs.Vec.{vec_capacity}
use Rattle.s3_bodies.proofs.body.Body.copy_to.Given as goal

-- the bytes up to the place stand behind the others
abbrev pub invariant-loop-at : goal.invariant-loop-at
invariant-loop-at l = record {
  so_far : l.out.items ≡ l.initial.out.items ++ take (l.at - l.from) (drop l.from l.self);
  inside : (l.from ≤ l.at) × (l.at ≤ length l.self);
  capacity : vec_capacity l.initial.out ≤ vec_capacity l.out;
}

abbrev pub decreases-loop-at : goal.decreases-loop-at
decreases-loop-at l = length l.self - l.at
