use Rattle.std.proofs.Common.{sym, ap, subst, ◌∙◌, ◌+◌, max, arith}
use Rattle.std.specs.FinMap as map
use Rattle.s3_stored_bodies.specs.Held.{AreBelow}
use Rattle.s3_stored_bodies.proofs.TreeLemmas.{put_in}
use Rattle.s3_stored_bodies.proofs.HeldLemmas.{below_more}
use Rattle.s3_stored_bodies.proofs.memory_bodies.MemoryBodies.put.Goals as goal

-- the next number is above all
pub invariant_of-self-2 : goal.invariant_of-self-2
invariant_of-self-2 c =
    let next = c.self.inside.next in
    let m = map.from_entries c.self.inside.by_number.entries in (
      subst (λ n. AreBelow n (map.from_entries c.insert.new.self.entries)) (sym c.max-self-inside.ensures)
          (subst (AreBelow (max next (c.args.number + 1)))
          (sym (put_in c.self.inside.by_number.entries c.insert.new.self.entries c.args.number (record { body = c.args.body; more = 0 }) c.in_ok-former.ensures.updates.0))
          (below_more m c.args.number next (record { body = c.args.body; more = 0 }) c.self.invariant.0)),
      omega (arith, c.max-self-inside.ensures, c.self.invariant.1, c.requires),
    )

pub returns-clause-ok : goal.returns-clause-ok
returns-clause-ok c =
    put_in c.self.inside.by_number.entries c.insert.new.self.entries c.args.number (record { body = c.args.body; more = 0 }) c.in_ok-former.ensures.updates.0
    ∙ ap (λ m. map.insert m c.args.number (record { body = c.args.body; more = 0 })) c.self.view_is
