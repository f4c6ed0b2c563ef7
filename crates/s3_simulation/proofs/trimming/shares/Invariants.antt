use Rattle.s3_simulation.specs.Run.{each_moments}
use Rattle.s3_simulation.specs.Trying.{AreFirstShares}
use Rattle.s3_simulation.proofs.trimming.shares.Given as goal

abbrev pub invariant-loop-number : goal.invariant-loop-number
invariant-loop-number l = AreFirstShares l.config (each_moments l.moments) l.events l.shares.items l.number
