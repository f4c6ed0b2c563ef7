-- What was passed are pairs.
use Rattle.std.proofs.Common.{◌≡◌, ◌≤◌, length, drop, ◌-◌}
use Rattle.s3_http_heads.specs.Find.{skip_pairs}
use Rattle.s3_http_heads.proofs.find.skipped.Given as goal

abbrev pub invariant-loop-at : goal.invariant-loop-at
invariant-loop-at l =
    record { pairs : skip_pairs (drop l.at l.bytes) ≡ skip_pairs l.bytes; within : l.at ≤ length l.bytes }

abbrev pub decreases-loop-at : goal.decreases-loop-at
decreases-loop-at l = length l.initial.bytes - l.at
