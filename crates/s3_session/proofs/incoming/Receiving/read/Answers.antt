use Rattle.std.proofs.Common.{◌++◌, ◌∙◌, false, refl, subst, sym, take}
use Rattle.s3_session.specs.Decision.{Judges, open_yet}
use Rattle.s3_session.specs.Incoming.{IsIncoming, Progresses}
use Rattle.s3_session.specs.declared.incoming.Incoming.{Incoming}
use Rattle.s3_session.proofs.AtOnceLemmas.{refused_open, taken_open}
use Rattle.s3_session.proofs.IncomingLemmas.{all_taken, progress_ok, progress_err}
use Rattle.s3_session.proofs.incoming.Receiving.read.Goals as goal

pub returns-in-Ok-clause-read : goal.returns-in-Ok-clause-read
returns-in-Ok-clause-read c settings rest h =
    let same = c.deref_mut.ensures.value ∙ c.self.view_is in
    let held = subst (λ (i : Incoming). IsIncoming settings i rest) (sym same) h in
    let fed = c.in-Ok.ensures.stands held.asked.announced held.behind held.stands in
    subst (λ (i : Incoming). Progresses settings i.context (rest ++ take c.in-Ok.len c.args.piece.now) c.settled.result) same
    (progress_ok c.verdicts_stay.ensures.head c.verdicts_stay.ensures.pairs c.bodies_are_judged.ensures.verdict c.bodies_are_judged.ensures.undecided
    c.open_bodies_are_short.ensures.short c.accepted_bodies_are_whole.ensures.whole
    settings c.deref_mut.result.now _ rest c.args.piece.now held refl refl c.in-Ok.len
    fed c.in-Ok.ensures.count c.settled.result (c.settled.ensures.settles held.asked.announced _ _ fed.1))

pub returns-in-Err-clause-read : goal.returns-in-Err-clause-read
returns-in-Err-clause-read c settings rest h =
    let same = c.deref_mut.ensures.value ∙ c.self.view_is in
    let old = c.deref_mut.result.now in
    let held = subst (λ (i : Incoming). IsIncoming settings i rest) (sym same) h in
    subst (λ (i : Incoming). Progresses settings i.context (rest ++ take c.taken_since-len.result c.args.piece.now) c.refused.result) same
    (progress_err c.verdicts_stay.ensures.head c.verdicts_stay.ensures.pairs
    settings old (record old { admission = record old.admission { reader = c.feed.new.self } }) rest c.args.piece.now held refl refl
    c.bodies_are_judged.ensures.verdict c.bodies_are_judged.ensures.failed c.refusals_stand.ensures c.in-Err.code
    (c.in-Err.ensures.stands held.asked.announced held.behind held.stands) c.feed.ensures.counts.0 _
    (rw (c.taken_since-len.ensures, c.taken-before.ensures, c.deref.ensures, c.deref_mut.ensures.value) refl) c.refused.result c.refused.ensures)

pub returns-in-Ok-clause-all : goal.returns-in-Ok-clause-all
returns-in-Ok-clause-all c settings rest h still =
    let held = subst (λ (i : Incoming). IsIncoming settings i rest) (sym (c.deref_mut.ensures.value ∙ c.self.view_is)) h in
    let fed = c.in-Ok.ensures.stands held.asked.announced held.behind held.stands in
    all_taken c.bodies_are_judged.ensures.verdict c.bodies_are_judged.ensures.undecided c.open_bodies_are_short.ensures.short settings c.deref_mut.result.now _ rest
    c.args.piece.now held c.in-Ok.len fed c.settled.result (c.settled.ensures.settles held.asked.announced _ _ fed.1) still

pub returns-in-Ok-clause-at_once : goal.returns-in-Ok-clause-at_once
returns-in-Ok-clause-at_once c settings rest h lives k less =
    let same = c.deref_mut.ensures.value ∙ c.self.view_is in
    let held = subst (λ (i : Incoming). IsIncoming settings i rest) (sym same) h in
    subst (λ (i : Incoming). Judges settings i.context.moment false (rest ++ take k c.args.piece.now) open_yet) same
    (taken_open c.verdicts_are_final.ensures.stay c.verdicts_are_final.ensures.one c.verdicts_are_final.ensures.exist c.refusals_stand.ensures c.accepted_bodies_are_whole.ensures.whole
    c.verdicts_stay.ensures.head c.verdicts_stay.ensures.pairs settings c.deref_mut.result.now rest c.args.piece.now held _ c.in-Ok.len
    (c.in-Ok.ensures.stands held.asked.announced held.behind held.stands) c.bodies_are_judged.ensures.verdict c.bodies_are_judged.ensures.undecided k less)

pub returns-in-Err-clause-at_once : goal.returns-in-Err-clause-at_once
returns-in-Err-clause-at_once c settings rest h lives k less =
    let same = c.deref_mut.ensures.value ∙ c.self.view_is in
    let held = subst (λ (i : Incoming). IsIncoming settings i rest) (sym same) h in
    subst (λ (i : Incoming). Judges settings i.context.moment false (rest ++ take k c.args.piece.now) open_yet) same
    (refused_open c.verdicts_are_final.ensures.stay c.verdicts_are_final.ensures.one c.verdicts_are_final.ensures.exist c.refusals_stand.ensures c.accepted_bodies_are_whole.ensures.whole
    c.verdicts_stay.ensures.head c.verdicts_stay.ensures.pairs settings c.deref_mut.result.now rest c.args.piece.now held _ c.bodies_are_judged.ensures.verdict c.bodies_are_judged.ensures.failed c.in-Err.code
    (c.in-Err.ensures.stands held.asked.announced held.behind held.stands) _ (rw (c.taken_since-len.ensures, c.taken-before.ensures, c.deref.ensures, c.deref_mut.ensures.value) refl) c.refused.result c.refused.ensures lives k less)
