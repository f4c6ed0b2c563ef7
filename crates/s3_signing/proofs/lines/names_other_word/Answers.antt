use Rattle.std.proofs.Common.{arith, sym}
use Rattle.s3_signing.proofs.WordLemmas.{other_word_behind, other_word_head, other_word_here, other_word_nowhere}
use Rattle.s3_signing.proofs.lines.names_other_word.Goals as goal

pub loop-index-init : goal.loop-index-init
loop-index-init c = other_word_head c.args.head.now

pub returns-then-is_other_word_line : goal.returns-then-is_other_word_line
returns-then-is_other_word_line c =
    sym (other_word_here c.args.head.now c.loop-index.index c.loop-index.invariant _ _ c.header.ensures (cc (c.if-is_other_word_line.true)))

pub loop-index-preserved : goal.loop-index-preserved
loop-index-preserved c =
    other_word_behind c.args.head.now c.loop-index.index c.loop-index.invariant _ _ c.header.ensures (cc (c.if-is_other_word_line.false))

pub returns : goal.returns
returns c = sym (other_word_nowhere c.args.head.now c.loop-index.index c.loop-index.invariant (omega (arith, c.header_count-index-end.ensures, c.loop-index-test.false)))
