use Rattle.std.proofs.lemmas.Bool.{iff_false}
use Rattle.s3_signer.specs.Request.{HasOne}
use Rattle.s3_signer.proofs.LineLemmas.{each_from}
use Rattle.s3_signer.proofs.ready.has_each.Goals as goal

pub returns-then-not-has_one : goal.returns-then-not-has_one
returns-then-not-has_one c =
    let step = each_from (HasOne c.args.head.now) c.args.lines.now c.loop-line.line-index _ c.loop-line-test.true in
    (λ yes. cc, λ all. absurd (iff_false c.has_one.ensures c.if-not-has_one.true (step.0 (c.loop-line.invariant.1 all)).0))

pub loop-line-preserved : goal.loop-line-preserved
loop-line-preserved c =
    let step = each_from (HasOne c.args.head.now) c.args.lines.now c.loop-line.line-index _ c.loop-line-test.true in
    (λ rest. c.loop-line.invariant.0 (step.1 (c.has_one.ensures.0 c.if-not-has_one.false, rest)), λ all. (step.0 (c.loop-line.invariant.1 all)).1)
