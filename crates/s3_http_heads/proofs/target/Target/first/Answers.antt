use Rattle.std.proofs.Common.{rules, sym, ◌∙◌, arith}
use Rattle.s3_http_heads.proofs.TargetLemmas.{first_at, first_past, first_none}
use Rattle.s3_http_heads.proofs.target.Target.first.Goals as goal

pub returns-then-eq : goal.returns-then-eq
returns-then-eq c =
    sym (first_at c.args.name.now c.args.self.now.parameters c.loop-index.index _ _ c.parameter.ensures (search rules)) ∙ c.loop-index.invariant

pub loop-index-preserved : goal.loop-index-preserved
loop-index-preserved c =
    sym (first_past c.args.name.now c.args.self.now.parameters c.loop-index.index _ _ c.parameter.ensures (search rules)) ∙ c.loop-index.invariant

pub returns : goal.returns
returns c =
    sym (first_none c.args.name.now c.args.self.now.parameters c.loop-index.index (omega (arith, c.parameter_count-index-end.ensures, c.loop-index-test.false)))
    ∙ c.loop-index.invariant
