use Rattle.std.proofs.Common.{◌+◌, ◌∙◌, ℕ, List, ap, arith, subst, sym}
use Rattle.std.proofs.lemmas.List.{length-map}
use Rattle.std.specs.Global.{Vec}
use Rattle.s3_simulation.specs.Events.{received}
use Rattle.s3_simulation.specs.Run.{each_moments}
use Rattle.s3_simulation.specs.Trimmed.{IsShare}
use Rattle.s3_simulation.specs.Trying.{AreFirstShares, share_of}
use Rattle.s3_simulation.specs.declared.share.Kept.{Kept}
use Rattle.s3_simulation.proofs.FreshLemmas.{moments_at}
use Rattle.s3_simulation.proofs.TrimLemmas.{shares_all, shares_more, shares_none}
use Rattle.s3_simulation.proofs.trimming.shares.Goals as goal

pub loop-number-init : goal.loop-number-init
loop-number-init c =
    let moments = each_moments c.args.moments.now in
    subst (λ (made : List Kept). AreFirstShares c.args.config.now moments c.args.events.now made 0) (sym c.new-shares.ensures.items)
    (shares_none c.args.config.now moments c.args.events.now)

pub loop-number-preserved : goal.loop-number-preserved
loop-number-preserved c =
    let settings = c.args.config.now in
    let moments = each_moments c.args.moments.now in
    let events = c.args.events.now in
    let n = c.loop-number.number in
    let share = c.in_ok-share.share in
    let there = moments_at c.args.moments.now n c.index-moments-number.result c.loop-number-test.true ∙ ap (λ (v : Vec ℕ). v.items) (sym {A = Vec ℕ} c.index-moments-number.is) in
    subst (λ (made : List Kept). AreFirstShares settings moments events made (n + 1)) (sym c.in_ok-push.ensures.items)
    (shares_more settings moments events c.loop-number.shares.items n share c.loop-number.invariant
    (subst (λ (ms : List ℕ). IsShare settings ms (received n events) (share_of share)) (sym (rw c.as_slice.ensures.value there)) c.in_ok-share.ensures))

pub returns : goal.returns
returns c =
    let moments = each_moments c.args.moments.now in
    let count = length-map c.args.moments.now (λ (v : Vec ℕ). v.items) in
    shares_all c.args.config.now moments c.args.events.now c.loop-number.shares.items
    (subst (AreFirstShares c.args.config.now moments c.args.events.now c.loop-number.shares.items) (omega (arith, count)) c.loop-number.invariant)
