use Rattle.std.proofs.Common.{List, ap, subst, ◌∙◌}
use Rattle.std.specs.List.{slice_get}
use Rattle.s3_simulation.specs.Faults.{TellsIn}
use Rattle.s3_simulation.specs.Played.{Playing}
use Rattle.s3_simulation.specs.World.{Serving}
use Rattle.s3_simulation.proofs.FaultLemmas.{no_fault, over_in, some_told}
use Rattle.s3_simulation.proofs.world.World.fault.Goals as goal

pub returns-clause-some : goal.returns-clause-some
returns-clause-some g c moments happened s =
    some_told c.args.self.now moments happened s c.args.connection c.fault_of_one.result
    (subst (λ (cs : List Playing). TellsIn (slice_get cs c.args.connection) c.fault_of_one.result) (c.deref.ensures.value ∙ ap (λ (w : Serving). w.connections) c.self.view_is) c.fault_of_one.ensures)

pub returns-clause-none : goal.returns-clause-none
returns-clause-none g c moments happened s less lives idle none =
    no_fault c.args.self.now moments happened s c.args.connection c.fault_of_one.result
    (subst (λ (cs : List Playing). TellsIn (slice_get cs c.args.connection) c.fault_of_one.result) (c.deref.ensures.value ∙ ap (λ (w : Serving). w.connections) c.self.view_is) c.fault_of_one.ensures)
    less lives idle none

pub returns-clause-over : goal.returns-clause-over
returns-clause-over g c some =
    over_in (slice_get c.args.self.now.connections c.args.connection) c.fault_of_one.result
    (subst (λ (cs : List Playing). TellsIn (slice_get cs c.args.connection) c.fault_of_one.result) (c.deref.ensures.value ∙ ap (λ (w : Serving). w.connections) c.self.view_is) c.fault_of_one.ensures) some
