use Rattle.std.proofs.Common.{subst}
use Rattle.s3_simulation.specs.Faults.{Tells}
use Rattle.s3_simulation.specs.Played.{Playing}
use Rattle.s3_simulation.proofs.FaultLemmas.{tells}
use Rattle.s3_simulation.proofs.played.Played.fault.Goals as goal

pub returns : goal.returns
returns c = subst (λ (p : Playing). Tells p c.fault.result) c.self.view_is (tells _ c.fault.result c.fault.ensures.some c.fault.ensures.over c.fault.ensures.none)
