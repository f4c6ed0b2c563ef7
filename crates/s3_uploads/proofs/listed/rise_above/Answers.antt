use Rattle.std.proofs.Common.{arith, sym, ◌∙◌, ◌≡◌, true, nat_lt}
use Rattle.std.proofs.lemmas.Bool.{ltb-true}
use Rattle.s3_uploads.proofs.ListedLemmas.{part_rises, none_left}
use Rattle.s3_uploads.proofs.listed.rise_above.Goals as goal

pub loop-part-preserved : goal.loop-part-preserved
loop-part-preserved c =
    let test : nat_lt c.loop-part.last c.part-item.result.number ≡ true = sym c.is_above.ensures ∙ c.if-not-is_above.false in
    let above = ltb-true c.loop-part.last c.part-item.result.number test in
    record {
      rest = rw c.get-last-in-loop-part.ensures.value (c.loop-part.invariant.rest ∙ part_rises c.loop-part.last c.args.listed.now c.loop-part.part-index c.part-item.result c.loop-part-test.true c.part-item.is test);
      few = omega (arith, above);
      bound = c.get-last-in-loop-part.ensures.upper_bound;
    }

pub returns-clause-value : goal.returns-clause-value
returns-clause-value c =
    sym (c.loop-part.invariant.rest ∙ none_left c.loop-part.last c.args.listed.now c.loop-part.part-index (omega arith))
