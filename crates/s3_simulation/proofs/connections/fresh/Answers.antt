use Rattle.std.proofs.Common.{◌+◌, ℕ, List, subst, sym, ap, ◌∙◌, arith}
use Rattle.std.specs.Global.{Vec}
use Rattle.s3_simulation.specs.Played.{Playing}
use Rattle.s3_simulation.specs.Run.{each_moments}
use Rattle.s3_simulation.specs.StandsAfter.{AreFresh, IsFresh}
use Rattle.s3_simulation.proofs.FreshLemmas.{fresh_more, fresh_none, moments_at}
use Rattle.s3_simulation.proofs.connections.fresh.Goals as goal

pub loop-number-init : goal.loop-number-init
loop-number-init c =
    subst (λ (made : List Playing). AreFresh made (each_moments c.args.moments.now) 0) (sym c.new-made.ensures.items) (fresh_none (each_moments c.args.moments.now))

pub loop-number-preserved : goal.loop-number-preserved
loop-number-preserved c =
    let moments = each_moments c.args.moments.now in
    let there = moments_at c.args.moments.now c.loop-number.number c.index-moments-number.result c.loop-number-test.true ∙ ap (λ (v : Vec ℕ). v.items) (sym {A = Vec ℕ} c.index-moments-number.is) in
    subst (λ (made : List Playing). AreFresh made moments (c.loop-number.number + 1)) (sym c.in_ok-push.ensures.items)
    (fresh_more c.loop-number.made.items moments c.loop-number.number c.new.result c.loop-number.invariant
    (subst (IsFresh c.new.result) (sym (rw c.as_slice.ensures.value there)) c.new.ensures.begins))

pub returns : goal.returns
returns c = subst (AreFresh c.loop-number.made.items (each_moments c.args.moments.now)) (omega arith) c.loop-number.invariant
