use Rattle.std.proofs.Common.{◌++◌, sym, ◌∙◌, ap, append_assoc, append-nil}
use Rattle.std.proofs.lemmas.List.{take_rest, drop_all}
use Rattle.s3_canonical.proofs.HeaderLemmas.{single_spaced-nil, single_spaced_dropped, single_spaced_kept}
use Rattle.s3_canonical.proofs.text.push_single_spaced.Goals as goal
use Rattle.s3_canonical.proofs.text.push_single_spaced.Goals.{then-not-starts_with+in_ok-push, else-not-starts_with}

pub loop-i-preserved : goal.loop-i-preserved
loop-i-preserved c =
    let value = c.args.value.now in
    let i = c.loop-i.i in
    let test = rw (take_rest value i) at c.starts_with.ensures.value in
    elim c.if-not-starts_with.branch [
      | then-not-starts_with+in_ok-push w ↦
          let kept = single_spaced_kept value i c.loop-i-test.true (sym test ∙ w.if-not-starts_with.true) in
          rw (w.text-is, w.in_ok-push.ensures.items, append_assoc) (ap (λ rest. c.loop-i.text.items ++ rest) (sym kept) ∙ c.loop-i.invariant)
      | else-not-starts_with w ↦
          let dropped = single_spaced_dropped value i c.loop-i-test.true (sym test ∙ w.if-not-starts_with.false) in
          rw (w.text-is) (ap (λ rest. c.loop-i.text.items ++ rest) (sym dropped) ∙ c.loop-i.invariant)
    ]

pub returns : goal.returns
returns c =
    let text = c.loop-i.text.items in
    sym (append-nil text) ∙ ap (λ rest. text ++ rest) (sym (rw (drop_all c.loop-i.i c.args.value.now c.loop-i-test.false) single_spaced-nil)) ∙ c.loop-i.invariant
