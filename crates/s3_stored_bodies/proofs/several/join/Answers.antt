use Rattle.std.proofs.Common.{refl, ap, ◌∙◌, ℕ, List}
use Rattle.std.specs.Borrow.{Bor}
use Rattle.std.specs.List.{flat_map}
use Rattle.s3_stored_bodies.proofs.JoinLemmas.{joined_push}
use Rattle.s3_stored_bodies.proofs.several.join.Goals as goal

pub loop-part-preserved : goal.loop-part-preserved
loop-part-preserved c =
    ap (flat_map (λ (body : Bor (List ℕ)). body.now)) c.in_ok-push.ensures.items
    ∙ joined_push (λ (body : Bor (List ℕ)). body.now) c.loop-part.lent.items _ c.args.parts.now c.loop-part.part-index c.part-item.result c.loop-part-test.true c.part-item.is c.loop-part.invariant refl
