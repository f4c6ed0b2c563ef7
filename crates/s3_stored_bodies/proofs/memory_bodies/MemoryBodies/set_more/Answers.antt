use Rattle.std.proofs.Common.{sym, ap, subst, refl, ◌∙◌, Some, None}
use Rattle.std.proofs.lemmas.Option.{same_Some}
use Rattle.std.specs.FinMap as map
use Rattle.s3_stored_bodies.specs.Held.{AreBelow}
use Rattle.s3_stored_bodies.specs.declared.held.HeldBody.{HeldBody}
use Rattle.s3_stored_bodies.proofs.TreeLemmas.{got, wrote}
use Rattle.s3_stored_bodies.proofs.HeldLemmas.{named_there, below_counted}
use Rattle.s3_stored_bodies.proofs.memory_bodies.MemoryBodies.set_more.Goals as goal

-- a number that is named has a body
pub unreachable-requires : goal.unreachable-requires
unreachable-requires c =
    named_there (map.get c.args.self.now c.args.number) c.requires
    (got c.self.inside.by_number.entries c.args.self.now c.args.number None c.self.view_is c.in-None.ensures.value)

pub invariant_of-self : goal.invariant_of-self
invariant_of-self c =
    let number = c.args.number in
    let before = c.self.inside.by_number in
    let m = map.from_entries before.entries in
    let old = c.in-Some.held.now in
    let new : HeldBody = record { body = old.body; more = c.args.more } in (
      subst (AreBelow c.self.inside.next)
          (sym (wrote before (c.get_mut.follows.lender new) m number old new refl c.in-Some.ensures.value (c.get_mut.follows.holds new)))
          (below_counted m number c.self.inside.next old new c.self.invariant.0 (got before.entries m number (Some old) refl c.in-Some.ensures.value)),
      c.self.invariant.1,
    )

pub returns : goal.returns
returns c = λ held there.
    let number = c.args.number in
    let before = c.self.inside.by_number in
    let old = c.in-Some.held.now in
    let new : HeldBody = record { body = old.body; more = c.args.more } in
    wrote before (c.get_mut.follows.lender new) c.args.self.now number old new c.self.view_is c.in-Some.ensures.value (c.get_mut.follows.holds new)
    ∙ ap (λ body. map.insert c.args.self.now number (record { body = body; more = c.args.more }))
    (ap (λ (h : HeldBody). h.body) (same_Some old held (sym (got before.entries c.args.self.now number (Some old) c.self.view_is c.in-Some.ensures.value) ∙ there)))
