use Rattle.s3_simulation.specs.Run.{each_moments}
use Rattle.s3_simulation.specs.StandsAfter.{AreFresh}
use Rattle.s3_simulation.proofs.connections.fresh.Given as goal

abbrev pub invariant-loop-number : goal.invariant-loop-number
invariant-loop-number l = AreFresh l.made.items (each_moments l.moments) l.number
