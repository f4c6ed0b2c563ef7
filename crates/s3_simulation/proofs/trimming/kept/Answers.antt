use Rattle.std.proofs.Common.{◌≡◌, [], ◌∷◌, ◌++◌, ◌∙◌, ◌+◌, ℕ, List, ap, append_assoc, arith, drop, map, subst, sym, take}
use Rattle.std.proofs.lemmas.List.{take-append-drop, take_all, take_more}
use Rattle.s3_events.specs.Script.{said_of_event}
use Rattle.s3_events.specs.declared.event.Event.{Event}
use Rattle.s3_simulation.specs.Events.{received}
use Rattle.s3_simulation.specs.Trimmed.{kept_after}
use Rattle.s3_simulation.specs.Trying.{EndsWithin, share_at}
use Rattle.s3_simulation.proofs.TrimLemmas.{AreLeft, kept_next, left_first, left_next}
use Rattle.s3_simulation.proofs.trimming.kept.Goals as goal

pub loop-number-init : goal.loop-number-init
loop-number-init c within = (left_first (share_at c.args.shares.now), ap (map said_of_event) c.new-made.ensures.items)

pub loop-number-preserved : goal.loop-number-preserved
loop-number-preserved c within =
    let share = share_at c.args.shares.now in
    let left = share_at c.loop-number.shares in
    let next = share_at c.keep.new.shares in
    let events = c.args.events.now in
    let n = c.loop-number.number in
    let before = take n events in
    let e = c.index-events-number.result in
    let later = drop (n + 1) events in
    let so_far = c.loop-number.invariant within in
    let one : before ++ e ∷ [] ≡ take (n + 1) events =
    ap (λ (x : Event). before ++ x ∷ []) c.index-events-number.is ∙ sym (take_more events n e c.loop-number-test.true) in
    let all : before ++ e ∷ later ≡ events =
    sym (append_assoc before (e ∷ []) later) ∙ ap (λ (b : List Event). b ++ later) one ∙ take-append-drop (n + 1) events in
    let ends = λ (k : ℕ). subst (λ (es : List Event). EndsWithin (share k) (received k es)) (sym all) (within k) in
    subst (λ (b : List Event). AreLeft share next b × (map said_of_event c.keep.new.made.items ≡ kept_after share [] b)) one (
      left_next share left next before later e so_far.0 ends c.in_ok-keep.ensures.own c.in_ok-keep.ensures.others,
      kept_next share left next before later e so_far.0 c.loop-number.made.items c.keep.new.made.items so_far.1 c.in_ok-keep.ensures.made,
    )

pub returns : goal.returns
returns c within =
    subst (λ (b : List Event). map said_of_event c.loop-number.made.items ≡ kept_after (share_at c.args.shares.now) [] b)
    (take_all c.loop-number.number c.args.events.now (omega arith)) (c.loop-number.invariant within).1
