use Rattle.std.proofs.Common.{◌≡◌, ◌↔◌, ap, subst, ◌∙◌, ℕ, None, take}
use Rattle.std.specs.FinMap as map
use Rattle.s3_stored_bodies.specs.Numbers.{named_less, KeepsNamed}
use Rattle.s3_stored_bodies.proofs.NumberLemmas.{same_where_named, named_back}
use Rattle.s3_stored_bodies.proofs.several.share_all.Goals as goal

-- what was shared is given up again, so all that was there stays
pub returns-in-Err-clause-contents : goal.returns-in-Err-clause-contents
returns-in-Err-clause-contents g c =
    let uses = g.B.StoredBodies.uses c.args.bodies.now in
    let contents = g.B.StoredBodies.contents c.args.bodies.now in
    let after = g.B.StoredBodies.contents c.give_up_all.new.bodies in
    let front = take c.loop-done.done c.args.numbers.now in
    let back = c.give_up_all.ensures.uses ∙ ap (named_less front) (c.in-Err.ensures.err_uses ∙ c.loop-done.invariant.uses) ∙ named_back front uses in
    same_where_named uses contents after
    (g.met.B.StoredBodies.named_where_there c.args.bodies.now)
    (subst (λ u. (q : ℕ) → (u q ≡ 0) ↔ (map.get after q ≡ None)) back (g.met.B.StoredBodies.named_where_there c.give_up_all.new.bodies))
    (subst (λ u. KeepsNamed u contents after) back
    (λ q named. c.give_up_all.ensures.contents q named ∙ ap (λ m. map.get m q) (c.share.ensures.contents ∙ c.loop-done.invariant.contents)))
