use Rattle.std.proofs.Common.{◌-◌, ◌+◌, sym, ap, subst, ◌∙◌, arith}
use Rattle.std.specs.FinMap as map
use Rattle.s3_stored_bodies.specs.Held.{contents_of, uses_of, uses_in}
use Rattle.s3_stored_bodies.specs.Numbers.{KeepsNamed}
use Rattle.s3_stored_bodies.proofs.HeldLemmas.{uses_dropped, uses_put_less, contents_dropped, contents_counted}
use Rattle.s3_stored_bodies.proofs.memory_bodies.MemoryBodiesStoredBodies.give_up.Goals as goal

-- where no other row names it
pub returns-then-more-eq0-clause-uses : goal.returns-then-more-eq0-clause-uses
returns-then-more-eq0-clause-uses c =
    ap uses_of c.drop_body.ensures
    ∙ uses_dropped c.args.self.now c.args.number (ap uses_in c.found.ensures ∙ ap (λ more. more + 1) c.if-more-eq0.true)

pub returns-then-more-eq0-clause-contents : goal.returns-then-more-eq0-clause-contents
returns-then-more-eq0-clause-contents c =
    subst (λ m. KeepsNamed (uses_of m) (contents_of c.args.self.now) (contents_of m)) (sym c.drop_body.ensures)
    (contents_dropped c.args.self.now c.args.number)

-- where one does
pub returns-else-more-eq0-clause-uses : goal.returns-else-more-eq0-clause-uses
returns-else-more-eq0-clause-uses c =
    let there = ap uses_in c.found.ensures in
    ap uses_of (c.set_more.ensures c.found.result.now c.found.ensures)
    ∙ uses_put_less c.args.self.now c.args.number (record { body = c.found.result.now.body; more = c.found.result.now.more - 1 }) (omega arith)

pub returns-else-more-eq0-clause-contents : goal.returns-else-more-eq0-clause-contents
returns-else-more-eq0-clause-contents c = λ number named.
    ap (λ m. map.get (contents_of m) number) (c.set_more.ensures c.found.result.now c.found.ensures)
    ∙ ap (λ contents. map.get contents number) (contents_counted c.args.self.now c.args.number c.found.result.now (c.found.result.now.more - 1) c.found.ensures)
