use Rattle.std.proofs.Common.{ap, subst, ◌+◌}
use Rattle.s3_records.specs.Places.{AreBelow}
use Rattle.s3_machine.specs.Step.{Stepped}
use Rattle.s3_store.proofs.store.Store.apply.Goals as goal

-- the next number is above those of all versions after the step
pub invariant_of-self-2 : goal.invariant_of-self-2
invariant_of-self-2 g c =
    subst (AreBelow (c.self.inside.number + 1)) (ap (λ (after : Stepped). after.0) c.in_ok-outcome.ensures.ok)
    (c.steps_keep.ensures.numbers c.args.rules.now _ c.self.inside.number c.args.moment c.args.command c.self.invariant)
