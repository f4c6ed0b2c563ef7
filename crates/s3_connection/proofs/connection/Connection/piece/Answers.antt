use Rattle.std.proofs.Common.{◌≡◌, ◌∙◌, ◌++◌, ◌⊎◌, [], ap, refl, subst, sym}
use Rattle.s3_connection.specs.Connection.{Connected, received, wants_of}
use Rattle.s3_connection.specs.Holds.{Holds}
use Rattle.s3_connection.specs.declared.stage.Wants.{Wants}
use Rattle.s3_connection.specs.declared.stage.Wants.TheVariants as wants
use Rattle.s3_connection.proofs.HoldsLemmas.{holds_closed, holds_kept}
use Rattle.s3_connection.proofs.connection.Connection.piece.Goals as goal

pub returns-in_ok-keep-in-Answer-clause-holds : goal.returns-in_ok-keep-in-Answer-clause-holds
returns-in_ok-keep-in-Answer-clause-holds c input moments entries sent h =
    let settings = c.args.config.now in
    subst (λ (d : Connected). Holds d settings (received input c.args.piece.now) (moments ++ []) entries sent) (sym c.in_ok-keep-in-Answer.ensures.kept)
    (holds_kept _ settings input moments entries sent h c.args.piece.now (c.args.self.now.kept ++ c.args.piece.now)
    (subst (λ (w : Wants). (w ≡ wants.Answer) ⊎ (w ≡ wants.ToGoOn)) (c.wants.ensures ∙ ap wants_of c.self.view_is) c.in-Answer.is)
    (sym (ap (λ (d : Connected). d.is_ended) c.self.view_is) ∙ c.if-self.false) refl)

pub returns-in-Nothing-clause-holds : goal.returns-in-Nothing-clause-holds
returns-in-Nothing-clause-holds c input moments entries sent h =
    holds_closed _ c.args.config.now input moments entries sent h c.args.piece.now (sym (ap wants_of c.self.view_is) ∙ sym c.wants.ensures ∙ c.in-Nothing.is) (sym (ap (λ (d : Connected). d.is_ended) c.self.view_is) ∙ c.if-self.false)
