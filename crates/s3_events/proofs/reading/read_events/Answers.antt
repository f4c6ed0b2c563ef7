use Rattle.std.proofs.Common.{◌≡◌, ℕ, refl, sym, ap, ◌∙◌, arith, take}
use Rattle.s3_text.specs.Lines.{lines_of}
use Rattle.s3_events.specs.Lines.{are_event_lines}
use Rattle.s3_events.proofs.ReadingLemmas.{next_line, right_more, first_bad, collected_more, none_left, asks_room}
use Rattle.s3_events.proofs.reading.read_events.Goals as goal

pub returns-in-None-clause-refused : goal.returns-in-None-clause-refused
returns-in-None-clause-refused c =
    let before = c.loop-line.invariant in
    first_bad _ _ _ _ (before.left ∙ c.in-Some.ensures.value) before.right (c.in-None.ensures.right _ _ before.collected)

pub loop-line-preserved : goal.loop-line-preserved
loop-line-preserved c =
    let before = c.loop-line.invariant in
    let is = before.left ∙ c.in-Some.ensures.value in
    let may = sym (c.in-Some-right_line.ensures.right _ _ before.collected) in
    record {
      room = omega (arith, before.room, c.in-Some.ensures.smaller);
      left = (next_line (lines_of c.args.text.now) (lines_of c.in-Some.rest.now) c.in-Some.line.now c.loop-line.count is).left;
      right = right_more _ _ _ _ is before.right may;
      collected = collected_more _ _ _ _ _ _ is c.in-Some-right_line.ensures.meaning.0 may (λ said says free. c.in_ok-add-in-Some-right_line.ensures _ said before.collected says free);
    }

pub loop-line-init : goal.loop-line-init
loop-line-init c = record {
  room = omega arith;
  left = refl;
  right = λ k least. let none : k ≡ 0 = omega (arith, least) in ap (λ (n : ℕ). are_event_lines (take n (lines_of c.args.text.now))) none;
  collected = c.new-script.ensures;
}

pub returns-clause-value : goal.returns-clause-value
returns-clause-value c =
    let before = c.loop-line.invariant in
    none_left _ _ _ _ before.left c.in_default.ensures.value before.right before.collected

pub returns-in_err-add-in-Some-right_line-clause-refused : goal.returns-in_err-add-in-Some-right_line-clause-refused
returns-in_err-add-in-Some-right_line-clause-refused c =
    let before = c.loop-line.invariant in
    let is = before.left ∙ c.in-Some.ensures.value in
    let may = sym (c.in-Some-right_line.ensures.right _ _ before.collected) in
    asks_room c.from_residual.result _ _ _ _ c.from_residual.ensures.1 is before.right may
