use Rattle.std.proofs.Common.{◌≤◌, ◌-◌, ℕ, false, length, take}
use Rattle.s3_payloads.specs.Reader.{Stands}
use Rattle.s3_framed_bodies.specs.Framed.{announced_with}
use Rattle.s3_framed_bodies.proofs.data.read_data.Given as goal

-- the reader stands behind the data up to the place
abbrev pub invariant-loop-at : goal.invariant-loop-at
invariant-loop-at l = record {
  stands : Stands l.reader (announced_with l.fn.form l.fn.verified (length l.fn.held)) (take l.at l.fn.held) false;
  inside : l.at ≤ length l.fn.held;
}

abbrev pub decreases-loop-at : goal.decreases-loop-at
decreases-loop-at l = length l.fn.held - l.at
