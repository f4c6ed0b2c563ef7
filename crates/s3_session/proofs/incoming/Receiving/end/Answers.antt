use Rattle.std.proofs.Common.{◌∙◌, subst, sym}
use Rattle.s3_session.specs.Incoming.{IsCut, IsInBody}
use Rattle.s3_session.specs.declared.incoming.Incoming.{Incoming}
use Rattle.s3_session.proofs.FrontLemmas.{cut_short}
use Rattle.s3_session.proofs.incoming.Receiving.end.Goals as goal

pub returns : goal.returns
returns c settings rest h =
    let same = c.deref_mut.ensures.value ∙ c.self.view_is in
    let held = subst (λ (i : Incoming). IsInBody settings i rest) (sym same) h in
    subst (λ (i : Incoming). IsCut settings i.context rest c.end-ended.result) same
    (cut_short c.bodies_are_judged.ensures.verdict c.open_bodies_are_short.ensures.incomplete settings c.deref_mut.result.now rest held c.end-ended.result
    (c.end-ended.ensures.says held.begun.asked.announced held.begun.behind held.begun.stands))
