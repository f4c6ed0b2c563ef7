use Rattle.std.proofs.Common.{◌≡◌, ◌∙◌, ap, refl, sym}
use Rattle.s3_payloads.specs.declared.whole.Stage.TheVariants as stages
use Rattle.s3_payloads.specs.Whole.{WholeState}
use Rattle.s3_payloads.proofs.WholeLemmas.{pass_end}
use Rattle.s3_payloads.proofs.whole.WholeReader.end_at.Goals as goal

pub returns-in-Passed : goal.returns-in-Passed
returns-in-Passed c =
    let passed : c.args.self.now.stage ≡ stages.Passed = sym (ap (λ (s : WholeState). s.stage) c.self.view_is) ∙ c.in-Passed.is in
    pass_end c.args.self.now.stage c.args.self.now (rw (← c.self.view_is) (c.self.invariant.3)) refl passed
