use Rattle.std.proofs.Common.{◌↔◌, ◌<◌, sym, subst, refl, IsTrue, Option, Some, None, is_some, arith}
use Rattle.s3_stored_bodies.specs.declared.held.HeldBody.{HeldBody}
use Rattle.s3_stored_bodies.specs.Held.{uses_of, uses_in}
use Rattle.s3_stored_bodies.proofs.TreeLemmas.{at, got}
use Rattle.s3_stored_bodies.proofs.memory_bodies.MemoryBodies.is_named.Goals as goal

-- a body that is held counts as named
counted_where : (found : Option HeldBody) → IsTrue (is_some found) ↔ (0 < uses_in found)
counted_where None = ((λ there. absurd (cc there)), (λ some. absurd (omega (arith, some))))
counted_where (Some held) = ((λ _. omega arith), (λ _. refl))

pub returns : goal.returns
returns c =
    let found = at c.self.inside.by_number.entries c.args.number in
    subst (λ b. IsTrue b ↔ (0 < uses_of c.args.self.now c.args.number)) (sym c.contains_key.ensures)
    (subst (λ held. IsTrue (is_some found) ↔ (0 < uses_in held)) (sym (got c.self.inside.by_number.entries c.args.self.now c.args.number found c.self.view_is refl))
    (counted_where found))
