use Rattle.std.proofs.Common.{◌≡◌, ℕ, [], map, take}
use Rattle.s3_events.specs.Script.{said_of_event}
use Rattle.s3_simulation.specs.Events.{received}
use Rattle.s3_simulation.specs.Trimmed.{kept_after}
use Rattle.s3_simulation.specs.Trying.{EndsWithin, share_at}
use Rattle.s3_simulation.proofs.TrimLemmas.{AreLeft}
use Rattle.s3_simulation.proofs.trimming.kept.Given as goal

abbrev pub invariant-loop-number : goal.invariant-loop-number
invariant-loop-number l =
    let share = share_at l.initial.shares in
    let before = take l.number l.events in
    ((c : ℕ) → EndsWithin (share c) (received c l.events))
    → AreLeft share (share_at l.shares) before × (map said_of_event l.made.items ≡ kept_after share [] before)
