use Rattle.std.proofs.Common.{ℕ, List}
use Rattle.s3_config.specs.Settings.{Settings}
use Rattle.s3_store.specs.Steps.{Standing}
use Rattle.s3_simulation.specs.Replaying.{HasCome}
use Rattle.s3_simulation.proofs.replay.Replay.take.Given as goal

abbrev pub invariant-loop : goal.invariant-loop
invariant-loop g l = (base : Standing) (settings : Settings) (moment : ℕ) (bytes : List ℕ) → HasCome l.initial.self base settings moment bytes → HasCome l.self base settings moment bytes
