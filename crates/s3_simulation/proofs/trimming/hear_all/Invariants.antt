use Rattle.std.proofs.Common.{◌≡◌, [], ℕ, List, false, take}
use Rattle.s3_simulation.specs.Events.{received}
use Rattle.s3_simulation.specs.Trying.{ReadsOn, Tries}
use Rattle.s3_simulation.proofs.trimming.hear_all.Given as goal

abbrev pub invariant-loop-number : goal.invariant-loop-number
invariant-loop-number l =
    let before = take l.number l.events in
    ReadsOn l.trial
    × ((moments : List ℕ) → Tries l.initial.trial l.config moments []
    → ((received l.connection before).ended ≡ false) × Tries l.trial l.config moments (received l.connection before).bytes)
