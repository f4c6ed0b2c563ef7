use Rattle.std.proofs.Common.{◌∙◌, sym, refl}
use Rattle.s3_http_heads.proofs.TextLemmas.{pairs_more, pairs_all, pairs_fit}
use Rattle.s3_http_heads.proofs.find.skipped.Goals as goal

pub loop-at-preserved : goal.loop-at-preserved
loop-at-preserved c = record {
  pairs = pairs_more c.args.bytes.now c.loop-at.at (sym c.loop-at-test.ensures.value) ∙ c.loop-at.invariant.pairs;
  within = pairs_fit c.args.bytes.now c.loop-at.at c.loop-at.invariant.within (c.loop-at-test.ensures.bound refl);
}

pub returns-clause-pairs : goal.returns-clause-pairs
returns-clause-pairs c = sym (pairs_all c.args.bytes.now c.loop-at.at (sym c.loop-at-test.ensures.value)) ∙ c.loop-at.invariant.pairs
