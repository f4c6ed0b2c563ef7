use Rattle.s3_http_heads.proofs.SearchLemmas.{loop_scanned}
use Rattle.s3_http_heads.proofs.search.scan.Goals as goal

pub returns-then-matched-eq-HEAD_END-clause-scanned : goal.returns-then-matched-eq-HEAD_END-clause-scanned
returns-then-matched-eq-HEAD_END-clause-scanned c = λ text p.
    loop_scanned text c.args.bytes.now c.loop-index.index c.loop-index.matched _ c.loop-index-test.true (c.loop-index.invariant text p) c.matched_after-matched.ensures

pub loop-index-preserved : goal.loop-index-preserved
loop-index-preserved c = λ text p.
    (loop_scanned text c.args.bytes.now c.loop-index.index c.loop-index.matched _ c.loop-index-test.true (c.loop-index.invariant text p) c.matched_after-matched.ensures).1 c.if-matched-eq-HEAD_END.false
