use Rattle.std.proofs.Common.{◌++◌, ◌∙◌, ap, subst, sym}
use Rattle.s3_session.specs.Fault.{IsFault}
use Rattle.s3_session.specs.PrintedFault.{EndsWithRefusal}
use Rattle.s3_session.specs.Session.{Connection, refused_at, unsent_of}
use Rattle.s3_session.proofs.FaultLemmas.{none_told, over_told}
use Rattle.s3_session.proofs.PrintedFaultLemmas.{fault_told, printed_told}
use Rattle.s3_session.proofs.session.Session.fault.Goals as goal

pub returns-in_err-refused_code-clause-none : goal.returns-in_err-refused_code-clause-none
returns-in_err-refused_code-clause-none c settings past sent more ended moments h lives unheard front all is =
    none_told settings c.args.self.now past sent h c.verdicts_are_one.ensures lives (ap (λ (s : Connection). refused_at s.stage) (sym c.self.view_is) ∙ sym c.refused_code.ensures ∙ c.in_err-refused_code.was) moments front all
    c.bodies_are_judged.ensures.verdict c.verdicts_stay.ensures c.invitations_are_final.ensures.stay c.verdicts_stay-2.ensures.head more ended unheard

pub returns-clause-over : goal.returns-clause-over
returns-clause-over c some =
    over_told c.args.self.now.stage c.in_ok-refused_code.field-0 (ap (λ (s : Connection). refused_at s.stage) (sym c.self.view_is) ∙ sym c.refused_code.ensures ∙ c.in_ok-refused_code.was)

pub returns-clause-some : goal.returns-clause-some
returns-clause-some c settings past sent h =
    subst (λ (s : Connection). IsFault settings past.bytes past.ended past.moments s.answered c.in_ok-refused_code.field-0) (sym c.self.view_is)
    (fault_told settings c.args.self.now past sent h c.in_ok-refused_code.field-0 (ap (λ (s : Connection). refused_at s.stage) (sym c.self.view_is) ∙ sym c.refused_code.ensures ∙ c.in_ok-refused_code.was))

pub returns-clause-printed : goal.returns-clause-printed
returns-clause-printed c settings past sent h =
    let self = c.args.self.now in
    subst (λ (s : Connection). EndsWithRefusal settings past (sent ++ unsent_of self) s.answered c.in_ok-refused_code.field-0) (sym c.self.view_is)
    (printed_told settings self past sent h c.in_ok-refused_code.field-0 (ap (λ (s : Connection). refused_at s.stage) (sym c.self.view_is) ∙ sym c.refused_code.ensures ∙ c.in_ok-refused_code.was))
