use Rattle.std.proofs.Common.{◌≡◌, ◌∙◌, true, false, ap, refl, subst, sym}
use Rattle.s3_session.specs.Session.{Connection, IsLonger, unsent_of}
use Rattle.s3_session.specs.Stands.{is_in_body}
use Rattle.s3_session.proofs.ReceivingLemmas.{cut_from}
use Rattle.s3_session.proofs.StandsLemmas.{body_in, stands_cut, stands_end}
use Rattle.s3_session.proofs.session.Session.end.Goals as goal

pub returns-then-is_in_body-clause-stands : goal.returns-then-is_in_body-clause-stands
returns-then-is_in_body-clause-stands c settings past sent h =
    let old = c.args.self.now in
    let body = body_in old.stage (subst (λ (s : Connection). is_in_body s.stage ≡ true) c.self.view_is (sym c.is_in_body.ensures ∙ c.if-is_in_body.true)) in
    stands_cut c.verdicts_stay.ensures c.invitations_are_final.ensures.stay c.verdicts_stay-2.ensures.head settings old c.cut.new.self past sent body.0 h body.1
    (h.end ∙ sym (ap (λ (s : Connection). s.is_ended) c.self.view_is) ∙ c.if-self.false) c.cut.ensures.end (c.cut.ensures.count ∙ ap (λ (s : Connection). s.answered) c.self.view_is)
    (λ rest is. cut_from settings body.0.context rest _ old c.cut.new.self (rw (← c.self.view_is) refl) (c.cut.ensures.cut body.0 (ap (λ (s : Connection). s.stage) c.self.view_is ∙ body.1) settings rest is))
    (subst (λ (s : Connection). IsLonger (unsent_of s) (unsent_of c.cut.new.self)) c.self.view_is c.cut.ensures.longer)
    (c.cut.ensures.head.0 ∙ ap (λ (s : Connection). s.search) c.self.view_is, c.cut.ensures.head.1 ∙ ap (λ (s : Connection). s.is_verified) c.self.view_is)

pub returns-else-is_in_body-clause-stands : goal.returns-else-is_in_body-clause-stands
returns-else-is_in_body-clause-stands c settings past sent h =
    stands_end c.verdicts_stay.ensures c.invitations_are_final.ensures.stay c.verdicts_stay-2.ensures.head settings c.args.self.now _ (rw (← c.self.view_is) refl) past sent
    (subst (λ (s : Connection). is_in_body s.stage ≡ false) c.self.view_is (sym c.is_in_body.ensures ∙ c.if-is_in_body.false))
    (rw (← c.self.view_is) refl) refl (ap (λ (s : Connection). s.answered) c.self.view_is)
    (ap (λ (s : Connection). s.search) c.self.view_is, ap (λ (s : Connection). s.is_verified) c.self.view_is) (h.end ∙ sym (ap (λ (s : Connection). s.is_ended) c.self.view_is) ∙ c.if-self.false) h
