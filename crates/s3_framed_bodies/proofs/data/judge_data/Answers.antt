use Rattle.std.proofs.Common.{◌≡◌, ◌∙◌, true, length, ap, sym}
use Rattle.s3_framed_bodies.specs.Framed.{announced_with}
use Rattle.s3_framed_bodies.specs.Verdict.{has_length}
use Rattle.s3_framed_bodies.proofs.DataLemmas.{told_err, told_ok}
use Rattle.s3_framed_bodies.proofs.data.judge_data.Goals as goal

pub returns-in_err-end : goal.returns-in_err-end
returns-in_err-end c place =
    let is : has_length c.args.form c.args.decoded (length c.args.held.now) ≡ true =
    ap (has_length c.args.form c.args.decoded) (sym c.size.ensures) ∙ sym c.has_length.ensures ∙ c.if-not-has_length.false in
    told_err c.args.form c.args.verified.now c.args.decoded c.args.held.now c.payloads_are_judged.ensures.verdict c.payloads_are_judged.ensures.failed place _ c.end.result _
    c.from_residual-in_err-end.result is (c.end.ensures.stands (announced_with c.args.form c.args.verified.now (length c.args.held.now)) c.args.held.now c.in_ok-reader.ensures.ok) c.in_err-end.was c.from_residual-in_err-end.ensures.1

pub returns : goal.returns
returns c place =
    let is : has_length c.args.form c.args.decoded (length c.args.held.now) ≡ true =
    ap (has_length c.args.form c.args.decoded) (sym c.size.ensures) ∙ sym c.has_length.ensures ∙ c.if-not-has_length.false in
    told_ok c.args.form c.args.verified.now c.args.decoded c.args.held.now c.payloads_are_judged.ensures.verdict place _ c.end.result c.finish.result _ c.sum-sum.result is
    (c.end.ensures.stands (announced_with c.args.form c.args.verified.now (length c.args.held.now)) c.args.held.now c.in_ok-reader.ensures.ok) c.in_ok-end.was c.finish.ensures.says c.in_ok-finish.was c.sum-sum.ensures
