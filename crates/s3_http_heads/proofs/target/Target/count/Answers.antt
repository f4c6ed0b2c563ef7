use Rattle.std.proofs.Common.{rules, ◌∙◌, arith}
use Rattle.s3_http_heads.proofs.TargetLemmas.{called_yes, called_no, called_all}
use Rattle.s3_http_heads.proofs.target.Target.count.Goals as goal
use Rattle.s3_http_heads.proofs.target.Target.count.Goals.{then-eq, else-eq}

pub loop-index-preserved : goal.loop-index-preserved
loop-index-preserved c = elim c.if-eq.branch [
  | then-eq w ↦
      let more = called_yes c.args.name.now c.args.self.now.parameters c.loop-index.index _ _ c.parameter.ensures (search rules) in
      record { counted = omega (arith, more, w.count-is, c.loop-index.invariant.counted); few = omega (arith, w.count-is) }
  | else-eq w ↦
      let more = called_no c.args.name.now c.args.self.now.parameters c.loop-index.index _ _ c.parameter.ensures (search rules) in
      record { counted = omega (arith, more, w.count-is, c.loop-index.invariant.counted); few = omega (arith, w.count-is) }
]

pub returns : goal.returns
returns c = c.loop-index.invariant.counted ∙ called_all c.args.name.now c.args.self.now c.loop-index.index (omega (arith, c.parameter_count-index-end.ensures))
