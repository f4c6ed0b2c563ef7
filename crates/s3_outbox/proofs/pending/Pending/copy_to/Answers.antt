use Rattle.std.proofs.Common.{◌-◌, ◌∙◌, ◌++◌, length, take, drop, ap, arith}
use Rattle.s3_outbox.proofs.SendLemmas.{copied_more, goes_on, copied_all, first_fits}
use Rattle.s3_outbox.proofs.WovenLemmas.{first_within}
use Rattle.s3_outbox.proofs.pending.Pending.copy_to.Goals as goal

pub slice_bounds-add-end : goal.slice_bounds-add-end
slice_bounds-add-end c =
    let p = c.args.self.now in
    let le = first_within (length p.text.items) c.loop-placed.at _ c.in-Some.placed.now _ c.in-Some.ensures.steps c.loop-placed.invariant.1 in
    omega (arith, le, p.text.ok.0, c.deref.ensures.len)

pub slice_bounds-add-start : goal.slice_bounds-add-start
slice_bounds-add-start c =
    let so_far = c.loop-placed.invariant in
    (first_fits _ c.loop-placed.at c.loop-placed.taken _ _ c.in-Some.placed.now c.in-Some.ensures.steps so_far.1 so_far.2).0

pub add-requires : goal.add-requires
add-requires c =
    let so_far = c.loop-placed.invariant in
    (first_fits _ c.loop-placed.at c.loop-placed.taken _ _ c.in-Some.placed.now c.in-Some.ensures.steps so_far.1 so_far.2).1

-- one more body is copied
pub loop-placed-preserved : goal.loop-placed-preserved
loop-placed-preserved c =
    let text = c.args.self.now.text.items in
    let l = c.loop-placed in
    let first = c.in-Some.placed.now in
    let steps = c.in-Some.ensures.steps in
    let behind = goes_on (length text) l.at _ _ first steps l.invariant.1 in
    let adds = c.in_ok-add.ensures ∙ ap (λ t. l.all.items ++ (take (first.behind - l.at) (drop l.at t) ++ drop l.taken first.body)) c.deref.ensures.value in (
      copied_more text l.all.items _ _ l.at l.taken _ _ first l.invariant.0 steps adds,
      behind.0,
      behind.1,
    )

pub returns : goal.returns
returns c =
    let l = c.loop-placed in
    let text = c.args.self.now.text.items in
    let value = copied_all text c.deref-2.result.now l.all.items _ _ l.at l.taken _ l.invariant.0 c.in-None.ensures.steps.0 c.deref-2.ensures.value c.in_ok-extend_from_slice.ensures.items in
    record { value = value }
