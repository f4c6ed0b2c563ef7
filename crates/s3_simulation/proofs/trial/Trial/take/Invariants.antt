use Rattle.std.proofs.Common.{◌≡◌, ◌++◌, ℕ, List}
use Rattle.s3_simulation.specs.Trying.{ReadsOn, Tries}
use Rattle.s3_simulation.proofs.trial.Trial.take.Given as goal

abbrev pub invariant-loop : goal.invariant-loop
invariant-loop l =
    (done : List ℕ)
    × (l.piece ≡ done ++ l.rest)
    × ReadsOn l.self
    × ((moments bytes : List ℕ) → Tries l.initial.self l.config moments bytes → Tries l.self l.config moments (bytes ++ done))
