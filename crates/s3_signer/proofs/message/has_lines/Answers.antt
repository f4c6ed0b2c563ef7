use Rattle.std.proofs.Common.{◌∙◌, sym, refl}
use Rattle.std.proofs.lemmas.Bool.{iff_false}
use Rattle.s3_signer.proofs.MessageLemmas.{all_same, each_same, one_more, said, said-map}
use Rattle.s3_signer.proofs.message.has_lines.Goals as goal

pub returns-then-not-reads_as : goal.returns-then-not-reads_as
returns-then-not-reads_as c = (
  (λ yes. cc),
  (λ all. absurd (iff_false c.reads_as.ensures c.if-not-reads_as.true (each_same said c.args.head.now.headers c.args.lines.now c.loop-index.index c.index-lines-index.result _ c.loop-index-test.true c.index-lines-index.is c.header.ensures (all ∙ sym (said-map c.args.lines.now))))),
)

pub loop-index-preserved : goal.loop-index-preserved
loop-index-preserved c = record {
  many = c.loop-index.invariant.many;
  same = one_more said c.args.head.now.headers c.args.lines.now c.loop-index.index c.index-lines-index.result _ c.loop-index.invariant.many c.loop-index-test.true c.index-lines-index.is c.header.ensures (c.reads_as.ensures.0 c.if-not-reads_as.false) c.loop-index.invariant.same;
}

pub returns : goal.returns
returns c = (
  (λ yes. all_same said c.args.head.now.headers c.args.lines.now c.loop-index.index c.loop-index.invariant.many c.loop-index-test.false c.loop-index.invariant.same ∙ said-map c.args.lines.now),
  (λ all. refl),
)
