use Rattle.std.proofs.Common.{◌≡◌, ℕ, List, ◌++◌, length}
use Rattle.s3_config.specs.Settings.{Settings}
use Rattle.s3_store.specs.Steps.{Standing}
use Rattle.s3_simulation.specs.Replaying.{HasTaken}
use Rattle.s3_simulation.proofs.replay.Replay.feed.Given as goal

abbrev pub invariant-loop-rest : goal.invariant-loop-rest
invariant-loop-rest g l = (done : List ℕ)
    × (l.bytes ≡ done ++ l.rest)
    × ((base : Standing) (settings : Settings) (moment : ℕ) (before : List ℕ) → HasTaken l.initial.self base settings moment before → HasTaken l.self base settings moment (before ++ done))

abbrev pub decreases-loop-rest : goal.decreases-loop-rest
decreases-loop-rest g l = length l.rest
