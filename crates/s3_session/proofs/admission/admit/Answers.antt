use Rattle.std.proofs.Common.{ap, sym, ◌∙◌, inr}
use Rattle.s3_terms.specs.declared.dialect.Dialect.{Dialect}
use Rattle.s3_http_heads.specs.BodyLength.{framing_of}
use Rattle.s3_session.proofs.AdmittingLemmas.{admits_asked, admits_code, admits_unrouted, given_ok}
use Rattle.s3_session.proofs.admission.admit.Goals as goal

pub returns-clause-admits : goal.returns-clause-admits
returns-clause-admits c =
    let framed = ap (λ (d : Dialect). framing_of d c.args.head.now c.args.config.now.body_limit) (sym c.dialect.ensures.value)
    ∙ ap (framing_of c.dialect.result c.args.head.now) (sym c.body_limit.ensures.value) ∙ sym c.framing.ensures ∙ c.in_ok-framing.was in
    admits_asked c.args.config.now c.args.head.now c.args.moment c.in_ok-framing.framing c.in_ok-verified.verified framed c.in_ok-verified.ensures.verdict
    c.in_ok-reader.reader c.in_ok-plan.plan c.in_ok-reader.ensures c.in_ok-plan.ensures

pub returns-in_err-plan-clause-admits : goal.returns-in_err-plan-clause-admits
returns-in_err-plan-clause-admits c =
    let framed = ap (λ (d : Dialect). framing_of d c.args.head.now c.args.config.now.body_limit) (sym c.dialect.ensures.value)
    ∙ ap (framing_of c.dialect.result c.args.head.now) (sym c.body_limit.ensures.value) ∙ sym c.framing.ensures ∙ c.in_ok-framing.was in
    admits_code _ _ c.from_residual-in_err-plan.result c.in_err-plan.field-0.0 c.from_residual-in_err-plan.ensures.1
    (admits_unrouted c.args.config.now c.args.head.now c.args.moment c.in_ok-framing.framing c.in_ok-verified.verified framed c.in_ok-verified.ensures.verdict
    c.in_ok-reader.reader c.in_err-plan.field-0.0 c.in_ok-reader.ensures c.in_err-plan.ensures)

pub returns-clause-verified : goal.returns-clause-verified
returns-clause-verified c =
    let framed = ap (λ (d : Dialect). framing_of d c.args.head.now c.args.config.now.body_limit) (sym c.dialect.ensures.value)
    ∙ ap (framing_of c.dialect.result c.args.head.now) (sym c.body_limit.ensures.value) ∙ sym c.framing.ensures ∙ c.in_ok-framing.was in
    λ _. inr (given_ok _ c.in_ok-framing.framing framed, given_ok _ c.in_ok-verified.verified c.in_ok-verified.ensures.verdict)
