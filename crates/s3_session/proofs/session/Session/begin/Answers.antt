use Rattle.std.proofs.Common.{◌≡◌, ℕ, [], ◌∷◌, ◌++◌, ap, refl, subst, sym, ◌∙◌}
use Rattle.std.specs.Prelude.{if◌then◌else◌}
use Rattle.s3_http_heads.specs.Search.{Holds, is_lost}
use Rattle.s3_replies.specs.Replies.{PrintsRefusal, continue_line, internal_error}
use Rattle.s3_terms.specs.declared.dialect.Dialect.{Dialect}
use Rattle.s3_session.specs.declared.session.Need.TheVariants as needs
use Rattle.s3_session.specs.Session.{Connection, Needs, added, moment_at, refused_at, standing_at, unsent_of}
use Rattle.s3_session.proofs.HeldLemmas.{head_said, held_begun, text_kept}
use Rattle.s3_session.proofs.NotedLemmas.{admitted_moment, closed_noted, dead_lives_not, noted_begun}
use Rattle.s3_session.proofs.ReceivingLemmas.{begins_admitted, begins_dead, begins_refused, longer_by, longer_on}
use Rattle.s3_session.proofs.session.Session.begin.Goals as goal

pub returns-in-Ok-clause-fed : goal.returns-in-Ok-clause-fed
returns-in-Ok-clause-fed c rest held whole =
    let written = subst (λ (s : Connection). unsent_of c.invite.new.self ≡ unsent_of s ++ (if c.in-Admitted.invited then continue_line else [])) c.self.view_is c.in-Ok.ensures.written in
    begins_admitted c.args.config.now c.args.moment rest c.args.piece.now c.args.self.now _ held whole c.searches_find.ensures.head
    c.bodies_are_judged.ensures.within c.in-Admitted.incoming c.in-Admitted.invited _ c.read_body.result.0 c.read_body.result.1
    written c.read_body.ensures.longer (λ last h invites. c.read_body.ensures.fed c.args.config.now rest last h invites)
    c.text.result (c.text.ensures.text rest (subst (λ (s : Connection). Holds s.search rest) (sym c.self.view_is) held)) c.in-Admitted.ensures.opens

pub returns-in-Refused-clause-fed : goal.returns-in-Refused-clause-fed
returns-in-Refused-clause-fed c rest held whole =
    let seen = subst (λ (s : Connection). PrintsRefusal c.dialect.result c.in-Refused.code c.args.moment c.in-Refused.head_only (added (unsent_of s) (unsent_of c.refuse.new.self))) c.self.view_is c.refuse.ensures.printed in
    let printed = subst (λ (d : Dialect). PrintsRefusal d c.in-Refused.code c.args.moment c.in-Refused.head_only (added (unsent_of c.args.self.now) (unsent_of c.refuse.new.self))) c.dialect.ensures.value seen in
    begins_refused c.args.config.now c.args.moment rest c.args.piece.now c.args.self.now _ held whole c.searches_find.ensures.head
    c.text.result (c.text.ensures.text rest (subst (λ (s : Connection). Holds s.search rest) (sym c.self.view_is) held)) c.in-Refused.code c.in-Refused.head_only c.in-Refused.ensures.opens
    c.refuse.ensures.stage printed _ refl

pub returns-in-Err-clause-fed : goal.returns-in-Err-clause-fed
returns-in-Err-clause-fed c rest held whole =
    let same = subst (λ (s : Connection). unsent_of c.invite.new.self ≡ unsent_of s) c.self.view_is c.in-Err.ensures.same in
    begins_dead c.args.config.now c.args.moment rest c.args.piece.now c.args.self.now _ whole c.die.ensures.stage
    (c.die.ensures.written ∙ ap (λ t. t ++ internal_error) same) _ refl

pub returns-in-Died-clause-fed : goal.returns-in-Died-clause-fed
returns-in-Died-clause-fed c rest held whole =
    begins_dead c.args.config.now c.args.moment rest c.args.piece.now c.args.self.now _ whole c.die-in-Died.ensures.stage
    (c.die-in-Died.ensures.written ∙ ap (λ (s : Connection). unsent_of s ++ internal_error) c.self.view_is) _ refl

pub returns-in-Ok-clause-longer : goal.returns-in-Ok-clause-longer
returns-in-Ok-clause-longer c =
    let written = subst (λ (s : Connection). unsent_of c.invite.new.self ≡ unsent_of s ++ (if c.in-Admitted.invited then continue_line else [])) c.self.view_is c.in-Ok.ensures.written in
    longer_on _ _ _ _ written c.read_body.ensures.longer

pub returns-in-Err-clause-longer : goal.returns-in-Err-clause-longer
returns-in-Err-clause-longer c =
    let same = subst (λ (s : Connection). unsent_of c.invite.new.self ≡ unsent_of s) c.self.view_is c.in-Err.ensures.same in
    longer_by _ _ internal_error (c.die.ensures.written ∙ ap (λ t. t ++ internal_error) same)

pub returns-in-Died-clause-longer : goal.returns-in-Died-clause-longer
returns-in-Died-clause-longer c =
    longer_by _ _ internal_error (c.die-in-Died.ensures.written ∙ ap (λ (s : Connection). unsent_of s ++ internal_error) c.self.view_is)

pub returns-in-Ok-clause-noted : goal.returns-in-Ok-clause-noted
returns-in-Ok-clause-noted c rest held whole =
    let same = c.read_body.ensures.head.1 ∙ c.in-Ok.ensures.head.1 in
    noted_begun c.args.config.now c.args.self.now _ c.args.moment rest held whole c.searches_find.ensures.head
    c.text.result (c.text.ensures.text rest (subst (λ (s : Connection). Holds s.search rest) (sym c.self.view_is) held))
    (c.text.ensures.lost ∙ ap (λ (s : Connection). is_lost s.search) c.self.view_is)
    (c.read_body.ensures.head.0 ∙ c.in-Ok.ensures.head.0 ∙ ap (λ (s : Connection). s.search) c.self.view_is)
    (c.read_body.ensures.moment ∙ ap (λ (m : ℕ). m ∷ [])
    (admitted_moment c.args.config.now c.args.moment _ c.in-Admitted.incoming c.in-Admitted.invited c.in-Admitted.ensures.opens))
    (λ is. c.in-Admitted.ensures.noted (sym same ∙ is)) (λ _ _. same ∙ c.in-Admitted.ensures.admitted refl) (λ _. same ∙ c.in-Admitted.ensures.admitted refl)
    (λ _ is. c.in-Admitted.ensures.spared refl (sym same ∙ is))

pub returns-in-Refused-clause-noted : goal.returns-in-Refused-clause-noted
returns-in-Refused-clause-noted c rest held whole =
    noted_begun c.args.config.now c.args.self.now _ c.args.moment rest held whole c.searches_find.ensures.head
    c.text.result (c.text.ensures.text rest (subst (λ (s : Connection). Holds s.search rest) (sym c.self.view_is) held))
    (c.text.ensures.lost ∙ ap (λ (s : Connection). is_lost s.search) c.self.view_is)
    (c.refuse.ensures.head.0 ∙ ap (λ (s : Connection). s.search) c.self.view_is) (ap moment_at c.refuse.ensures.stage)
    (λ is. c.in-Refused.ensures.noted (sym c.refuse.ensures.head.1 ∙ is))
    (λ _ verifies. c.refuse.ensures.head.1 ∙ c.in-Refused.ensures.told (λ died. (let clash = died in absurd (cc))) verifies) (closed_noted _ _ _ c.refuse.ensures.stage)
    (λ none. (let clash = sym none ∙ ap refused_at c.refuse.ensures.stage in absurd (cc)))

pub returns-in-Err-clause-noted : goal.returns-in-Err-clause-noted
returns-in-Err-clause-noted c rest held whole =
    noted_begun c.args.config.now c.args.self.now _ c.args.moment rest held whole c.searches_find.ensures.head
    c.text.result (c.text.ensures.text rest (subst (λ (s : Connection). Holds s.search rest) (sym c.self.view_is) held))
    (c.text.ensures.lost ∙ ap (λ (s : Connection). is_lost s.search) c.self.view_is)
    (c.die.ensures.head.0 ∙ c.in-Err.ensures.head.0 ∙ ap (λ (s : Connection). s.search) c.self.view_is) (ap moment_at c.die.ensures.stage)
    (λ is. c.in-Admitted.ensures.noted (sym (c.die.ensures.head.1 ∙ c.in-Err.ensures.head.1) ∙ is)) (λ lives _. dead_lives_not _ _ c.die.ensures.stage lives)
    (closed_noted _ _ _ c.die.ensures.stage) (λ _ is. c.in-Admitted.ensures.spared refl (sym (c.die.ensures.head.1 ∙ c.in-Err.ensures.head.1) ∙ is))

pub returns-in-Died-clause-noted : goal.returns-in-Died-clause-noted
returns-in-Died-clause-noted c rest held whole =
    noted_begun c.args.config.now c.args.self.now _ c.args.moment rest held whole c.searches_find.ensures.head
    c.text.result (c.text.ensures.text rest (subst (λ (s : Connection). Holds s.search rest) (sym c.self.view_is) held))
    (c.text.ensures.lost ∙ ap (λ (s : Connection). is_lost s.search) c.self.view_is)
    (c.die-in-Died.ensures.head.0 ∙ ap (λ (s : Connection). s.search) c.self.view_is) (ap moment_at c.die-in-Died.ensures.stage)
    (λ is. c.in-Died.ensures.noted (sym c.die-in-Died.ensures.head.1 ∙ is)) (λ lives _. dead_lives_not _ _ c.die-in-Died.ensures.stage lives) (closed_noted _ _ _ c.die-in-Died.ensures.stage)
    (λ _ is. c.in-Died.ensures.spared refl (sym c.die-in-Died.ensures.head.1 ∙ is))

pub returns-in-Ok-clause-held : goal.returns-in-Ok-clause-held
returns-in-Ok-clause-held c rest held whole =
    held_begun c.args.self.now _ rest _ held whole (c.read_body.ensures.head.0 ∙ c.in-Ok.ensures.head.0 ∙ ap (λ (s : Connection). s.search) c.self.view_is)
    (λ _. text_kept c.args.config.now c.args.moment c.text.result _ _ (c.text.ensures.lost ∙ ap (λ (s : Connection). is_lost s.search) c.self.view_is)
    c.in-Admitted.ensures.opens (λ died. (let clash = died in absurd (cc))))
    (λ _. head_said c.args.config.now c.args.moment rest c.text.result _ _ (c.text.ensures.lost ∙ ap (λ (s : Connection). is_lost s.search) c.self.view_is)
    (c.text.ensures.text rest (subst (λ (s : Connection). Holds s.search rest) (sym c.self.view_is) held))
    (λ _ _ is. absurd (cc)) c.in-Admitted.ensures.opens)

pub returns-in-Refused-clause-held : goal.returns-in-Refused-clause-held
returns-in-Refused-clause-held c rest held whole =
    held_begun c.args.self.now _ rest _ held whole (c.refuse.ensures.head.0 ∙ ap (λ (s : Connection). s.search) c.self.view_is)
    (λ _. text_kept c.args.config.now c.args.moment c.text.result _ _ (c.text.ensures.lost ∙ ap (λ (s : Connection). is_lost s.search) c.self.view_is)
    c.in-Refused.ensures.opens (λ died. (let clash = died in absurd (cc))))
    (λ none. (let clash = sym none ∙ ap refused_at c.refuse.ensures.stage in absurd (cc)))

pub returns-in-Err-clause-held : goal.returns-in-Err-clause-held
returns-in-Err-clause-held c rest held whole =
    held_begun c.args.self.now _ rest _ held whole (c.die.ensures.head.0 ∙ c.in-Err.ensures.head.0 ∙ ap (λ (s : Connection). s.search) c.self.view_is)
    (λ lives. dead_lives_not _ _ c.die.ensures.stage lives)
    (λ _. head_said c.args.config.now c.args.moment rest c.text.result _ _ (c.text.ensures.lost ∙ ap (λ (s : Connection). is_lost s.search) c.self.view_is)
    (c.text.ensures.text rest (subst (λ (s : Connection). Holds s.search rest) (sym c.self.view_is) held))
    (λ _ _ is. absurd (cc)) c.in-Admitted.ensures.opens)

pub returns-in-Died-clause-held : goal.returns-in-Died-clause-held
returns-in-Died-clause-held c rest held whole =
    held_begun c.args.self.now _ rest _ held whole (c.die-in-Died.ensures.head.0 ∙ ap (λ (s : Connection). s.search) c.self.view_is)
    (λ lives. dead_lives_not _ _ c.die-in-Died.ensures.stage lives)
    (λ _. head_said c.args.config.now c.args.moment rest c.text.result _ _ (c.text.ensures.lost ∙ ap (λ (s : Connection). is_lost s.search) c.self.view_is)
    (c.text.ensures.text rest (subst (λ (s : Connection). Holds s.search rest) (sym c.self.view_is) held))
    (λ _ _ is. absurd (cc)) c.in-Died.ensures.opens)

-- what is closed is to be closed
pub returns-in-Refused-clause-needs : goal.returns-in-Refused-clause-needs
returns-in-Refused-clause-needs c = subst (λ stage. Needs needs.Close (standing_at stage)) (sym c.refuse.ensures.stage) tt

pub returns-in-Err-clause-needs : goal.returns-in-Err-clause-needs
returns-in-Err-clause-needs c = subst (λ stage. Needs needs.Close (standing_at stage)) (sym c.die.ensures.stage) tt

pub returns-in-Died-clause-needs : goal.returns-in-Died-clause-needs
returns-in-Died-clause-needs c = subst (λ stage. Needs needs.Close (standing_at stage)) (sym c.die-in-Died.ensures.stage) tt

-- no message is answered
pub returns-in-Ok-clause-count : goal.returns-in-Ok-clause-count
returns-in-Ok-clause-count c = c.read_body.ensures.count ∙ c.in-Ok.ensures.count ∙ ap (λ (s : Connection). s.answered) c.self.view_is

pub returns-in-Refused-clause-count : goal.returns-in-Refused-clause-count
returns-in-Refused-clause-count c = c.refuse.ensures.count ∙ ap (λ (s : Connection). s.answered) c.self.view_is

pub returns-in-Err-clause-count : goal.returns-in-Err-clause-count
returns-in-Err-clause-count c = c.die.ensures.count ∙ c.in-Err.ensures.count ∙ ap (λ (s : Connection). s.answered) c.self.view_is

pub returns-in-Died-clause-count : goal.returns-in-Died-clause-count
returns-in-Died-clause-count c = c.die-in-Died.ensures.count ∙ ap (λ (s : Connection). s.answered) c.self.view_is
