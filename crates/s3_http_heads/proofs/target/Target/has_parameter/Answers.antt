use Rattle.std.proofs.Common.{rules, sym}
use Rattle.s3_http_heads.proofs.TargetLemmas.{called_here, called_not_yet}
use Rattle.s3_http_heads.proofs.target.Target.has_parameter.Goals as goal

pub returns-then-eq : goal.returns-then-eq
returns-then-eq c =
    sym (called_here c.args.name.now c.args.self.now.parameters c.loop-index.index _ _ c.parameter.ensures (search rules))

pub loop-index-preserved : goal.loop-index-preserved
loop-index-preserved c =
    called_not_yet c.args.name.now c.args.self.now.parameters c.loop-index.index _ _ c.parameter.ensures (search rules) c.loop-index.invariant
