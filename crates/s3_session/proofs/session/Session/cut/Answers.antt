use Rattle.std.proofs.Common.{◌≡◌, ◌∙◌, Err, ap, subst, sym}
use Rattle.s3_terms.specs.declared.dialect.Dialect.{Dialect}
use Rattle.s3_replies.specs.Replies.{PrintsRefusal}
use Rattle.s3_replies.specs.declared.context.Context.{Context}
use Rattle.s3_session.specs.declared.incoming.Incoming.{Incoming}
use Rattle.s3_session.specs.Incoming.{IsCut, IsInBody}
use Rattle.s3_session.specs.Session.{Connection, added, unsent_of}
use Rattle.s3_session.specs.Stands.{IsCutTo}
use Rattle.s3_session.proofs.StandsLemmas.{same_body}
use Rattle.s3_session.proofs.session.Session.cut.Goals as goal

pub returns-in-Err-clause-cut : goal.returns-in-Err-clause-cut
returns-in-Err-clause-cut c incoming at settings rest h =
    let same = same_body incoming c.in-Body.incoming (sym at ∙ sym (ap (λ (s : Connection). s.stage) c.self.view_is) ∙ sym c.in-Body.ensures.value) in
    let body = subst (λ (i : Incoming). IsInBody settings i rest) same h in
    let context = c.context-context.result in
    let known = c.context-context.ensures in
    let dialect : context.dialect ≡ settings.dialect = ap (λ (x : Context). x.dialect) (known ∙ body.begun.context) in
    let seen = subst (λ (s : Connection). PrintsRefusal context.dialect c.in-Err.code context.moment context.head_only (added (unsent_of s) (unsent_of c.refuse.new.self))) c.self.view_is c.refuse.ensures.printed in
    let cut : IsCutTo settings context rest c.args.self.now c.refuse.new.self = record {
      code = c.in-Err.code;
      judged = subst (λ (x : Context). IsCut settings x rest (Err c.in-Err.code)) (sym known) (c.in-Err.ensures settings rest body);
      stage = c.refuse.ensures.stage;
      printed = subst (λ (d : Dialect). PrintsRefusal d c.in-Err.code context.moment context.head_only (added (unsent_of c.args.self.now) (unsent_of c.refuse.new.self))) dialect seen;
    } in
    subst (λ (x : Context). IsCutTo settings x rest c.args.self.now c.refuse.new.self) (known ∙ sym (ap (λ (i : Incoming). i.context) same)) cut

pub returns-in_default-end-clause-cut : goal.returns-in_default-end-clause-cut
returns-in_default-end-clause-cut c incoming at settings rest h =
    let same = same_body incoming c.in-Body.incoming (sym at ∙ sym (ap (λ (s : Connection). s.stage) c.self.view_is) ∙ sym c.in-Body.ensures.value) in
    let body = subst (λ (i : Incoming). IsInBody settings i rest) same h in
    absurd (c.in_default-end.ensures settings rest body)
