use Rattle.s3_http_heads.proofs.TextLemmas.{Stands_none, loop_found, loop_goes_on, loop_ends}
use Rattle.s3_http_heads.proofs.find.head_length.Goals as goal

pub loop-index-init : goal.loop-index-init
loop-index-init c = Stands_none c.args.text.now

pub returns-then-matched-eq4 : goal.returns-then-matched-eq4
returns-then-matched-eq4 c =
    loop_found _ _ _ _ c.loop-index-test.true c.loop-index.invariant c.matched_after-matched.ensures c.if-matched-eq4.true

pub loop-index-preserved : goal.loop-index-preserved
loop-index-preserved c =
    loop_goes_on _ _ _ _ c.loop-index-test.true c.loop-index.invariant c.matched_after-matched.ensures c.if-matched-eq4.false

pub returns : goal.returns
returns c = loop_ends _ _ _ c.loop-index-test.false c.loop-index.invariant
