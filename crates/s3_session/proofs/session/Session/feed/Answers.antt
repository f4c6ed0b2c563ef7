use Rattle.std.proofs.Common.{◌∙◌, ℕ, List, ap, refl, subst, sym, take}
use Rattle.s3_session.specs.Session.{Connection, IsLonger, StaysOpen, fed, turns_of, unsent_of}
use Rattle.s3_session.specs.Stands.{Stands}
use Rattle.s3_session.proofs.ReceivingLemmas.{fed_from}
use Rattle.s3_session.proofs.StandsLemmas.{fed_reading, fed_receiving, gave_reading, gave_receiving}
use Rattle.s3_session.proofs.UndecidedLemmas.{reading_open, receiving_open}
use Rattle.s3_session.proofs.session.Session.feed.Goals as goal

pub returns-in-Reading-clause-stands : goal.returns-in-Reading-clause-stands
returns-in-Reading-clause-stands c past sent h =
    let at = sym (ap (λ (s : Connection). s.stage) c.self.view_is) ∙ c.in-Reading.is in
    let f = c.read_head in
    subst (λ (ms : List ℕ). Stands f.new.self c.args.config.now (fed past (take f.result.len c.args.piece.now) ms (turns_of f.result.need)) sent)
    (gave_reading c.args.self.now f.new.self f.result.has_moment c.args.now at f.ensures.moment)
    (fed_reading c.verdicts_stay.ensures c.invitations_are_final.ensures.stay c.args.config.now c.args.self.now f.new.self past sent c.args.piece.now f.result.len f.result.need
    h at c.requires.goes_on f.ensures.longer f.ensures.end f.ensures.count f.ensures.fed f.ensures.noted f.ensures.held)

pub returns-in-Body-replace-clause-stands : goal.returns-in-Body-replace-clause-stands
returns-in-Body-replace-clause-stands c past sent h =
    let at = sym (ap (λ (s : Connection). s.stage) c.self.view_is) ∙ sym c.in-Body-replace.ensures.value in
    let f = c.read_body-len in
    subst (λ (ms : List ℕ). Stands f.new.self c.args.config.now (fed past (take f.result.0 c.args.piece.now) ms (turns_of f.result.1)) sent)
    (gave_receiving c.args.self.now f.new.self c.in-Body-replace.incoming at f.ensures.moment)
    (fed_receiving c.verdicts_stay.ensures c.invitations_are_final.ensures.stay c.args.config.now c.args.self.now f.new.self past sent c.args.piece.now f.result.0 f.result.1
    c.in-Body-replace.incoming h at c.requires.goes_on (subst (λ (s : Connection). IsLonger (unsent_of s) (unsent_of f.new.self)) c.self.view_is f.ensures.longer)
    (f.ensures.end ∙ ap (λ (s : Connection). s.is_ended) c.self.view_is ∙ c.requires.goes_on) (f.ensures.count ∙ ap (λ (s : Connection). s.answered) c.self.view_is)
    (f.ensures.head.0 ∙ ap (λ (s : Connection). s.search) c.self.view_is, f.ensures.head.1 ∙ ap (λ (s : Connection). s.is_verified) c.self.view_is) f.ensures.moment
    (λ rest last body invites. fed_from c.args.config.now c.args.self.now _ f.new.self rest last c.args.piece.now f.result.0 f.result.1 (rw (← c.self.view_is) refl)
    (f.ensures.fed c.args.config.now rest last body.begun invites)))

pub returns-in-Reading-clause-at_once : goal.returns-in-Reading-clause-at_once
returns-in-Reading-clause-at_once c past sent h lives =
    let at = sym (ap (λ (s : Connection). s.stage) c.self.view_is) ∙ c.in-Reading.is in
    let f = c.read_head in
    subst (λ (ms : List ℕ). StaysOpen c.args.config.now past (take f.result.len c.args.piece.now) ms)
    (gave_reading c.args.self.now f.new.self f.result.has_moment c.args.now at f.ensures.moment)
    (reading_open c.verdicts_stay.ensures c.invitations_are_final.ensures.stay c.args.config.now c.args.self.now f.new.self past sent c.args.piece.now f.result.len f.result.need
    h c.requires.goes_on lives at f.ensures.fed)

pub returns-in-Body-replace-clause-at_once : goal.returns-in-Body-replace-clause-at_once
returns-in-Body-replace-clause-at_once c past sent h lives =
    let at = sym (ap (λ (s : Connection). s.stage) c.self.view_is) ∙ sym c.in-Body-replace.ensures.value in
    let f = c.read_body-len in
    subst (λ (ms : List ℕ). StaysOpen c.args.config.now past (take f.result.0 c.args.piece.now) ms)
    (gave_receiving c.args.self.now f.new.self c.in-Body-replace.incoming at f.ensures.moment)
    (receiving_open c.verdicts_stay.ensures c.invitations_are_final.ensures.stay c.args.config.now c.args.self.now f.new.self past sent c.args.piece.now f.result.0 f.result.1
    h c.requires.goes_on lives c.in-Body-replace.incoming at f.ensures.moment c.verdicts_stay-2.ensures.head
    (λ rest last body invites. fed_from c.args.config.now c.args.self.now _ f.new.self rest last c.args.piece.now f.result.0 f.result.1 (rw (← c.self.view_is) refl)
    (f.ensures.fed c.args.config.now rest last body.begun invites)))
