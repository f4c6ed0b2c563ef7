use Rattle.std.proofs.Common.{◌≡◌, ◌-◌, length, drop}
use Rattle.s3_outbox.specs.Pending.{waiting, IsSound, LeavesRoom}
use Rattle.s3_outbox.proofs.pending.Pending.send.Given as goal

-- what is left to drop of what waits now was to be dropped of what waited
abbrev pub invariant-loop-left : goal.invariant-loop-left
invariant-loop-left l =
    IsSound l.self
    × (drop l.left (waiting l.self) ≡ drop l.count (waiting l.initial.self))
    × (l.left - length (waiting l.self) ≡ l.count - length (waiting l.initial.self))
    × LeavesRoom l.initial.self l.self

abbrev pub decreases-loop-left : goal.decreases-loop-left
decreases-loop-left l = l.left
