use Rattle.std.proofs.Common.{sym, ap, subst, ◌∙◌}
use Rattle.std.specs.FinMap as map
use Rattle.s3_stored_bodies.specs.Held.{AreBelow}
use Rattle.s3_stored_bodies.proofs.TreeLemmas.{taken_out}
use Rattle.s3_stored_bodies.proofs.HeldLemmas.{below_dropped}
use Rattle.s3_stored_bodies.proofs.memory_bodies.MemoryBodies.drop_body.Goals as goal

pub invariant_of-self : goal.invariant_of-self
invariant_of-self c = (
  subst (AreBelow c.self.inside.next) (sym (taken_out c.self.inside.by_number.entries c.remove.new.self.entries c.args.number c.remove.ensures.updates.0))
      (below_dropped (map.from_entries c.self.inside.by_number.entries) c.args.number c.self.inside.next c.self.invariant.0),
  c.self.invariant.1,
)

pub returns : goal.returns
returns c =
    taken_out c.self.inside.by_number.entries c.remove.new.self.entries c.args.number c.remove.ensures.updates.0
    ∙ ap (λ m. map.remove m c.args.number) c.self.view_is
