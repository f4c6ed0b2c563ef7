use Rattle.std.proofs.Common.{◌∙◌, arith}
use Rattle.s3_http_heads.proofs.NameLemmas.{values_no, first_here, first_nowhere}
use Rattle.s3_http_heads.proofs.head.Head.first.Goals as goal

pub returns-then-is_named : goal.returns-then-is_named
returns-then-is_named c =
    first_here c.args.name.now c.args.self.now c.loop-line.line _ _ c.loop-line.invariant c.header.ensures c.if-is_named.ensures

pub loop-line-preserved : goal.loop-line-preserved
loop-line-preserved c =
    values_no c.args.name.now c.args.self.now.headers c.loop-line.line _ _ c.header.ensures c.if-is_named.ensures
    ∙ c.loop-line.invariant

pub returns : goal.returns
returns c = first_nowhere c.args.name.now c.args.self.now c.loop-line.line c.loop-line.invariant (omega (arith, c.header_count-line-end.ensures))
