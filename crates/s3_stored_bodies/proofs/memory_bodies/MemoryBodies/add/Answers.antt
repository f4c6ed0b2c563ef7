use Rattle.std.proofs.Common.{sym, ap, ◌∙◌}
use Rattle.std.specs.FinMap as map
use Rattle.s3_stored_bodies.proofs.HeldLemmas.{none_next}
use Rattle.s3_stored_bodies.proofs.memory_bodies.MemoryBodies.add.Goals as goal

-- nothing stands under the next number
pub returns-clause-new : goal.returns-clause-new
returns-clause-new c = ap (λ m. map.get m c.self.inside.next) (sym c.self.view_is) ∙ none_next _ c.self.inside.next c.self.invariant.0
