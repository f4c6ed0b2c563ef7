use Rattle.std.proofs.Common.{◌∙◌, ℕ, List, [], false, ap, append-nil, inl, inr, refl, subst, sym}
use Rattle.s3_session.specs.Output.{is_dead, is_waiting}
use Rattle.s3_simulation.specs.Faults.{HasNoFaultOf}
use Rattle.s3_simulation.specs.Trying.{TellsRefused, Trying, unended}
use Rattle.s3_simulation.proofs.TrialLemmas.{none_told, refused_told, some_told, unrefused}
use Rattle.s3_simulation.proofs.trial.Trial.is_refused.Goals as goal

pub returns : goal.returns
returns c =
    subst (λ (t : Trying). TellsRefused t c.is_some.result) c.self.view_is
    (record {
      some = λ settings moments bytes h is.
          refused_told settings moments bytes h.count c.fault.result (c.fault.ensures.some settings _ h.sent h.stands) (sym c.is_some.ensures ∙ is);
      over = λ is. c.fault.ensures.over (some_told c.fault.result (sym c.is_some.ensures ∙ is));
      none = λ settings moments bytes h lives idle is.
          subst (λ (b : List ℕ). HasNoFaultOf settings moments (unended b)) (append-nil bytes)
          (unrefused _ settings moments bytes [] h
          (λ given front.
          c.fault.ensures.none settings _ h.sent [] false given h.stands lives (inl (refl, refl)) front
          (λ waits. (let never = sym waits ∙ idle in absurd (cc))) (none_told c.fault.result (sym c.is_some.ensures ∙ is))));
      closed = λ settings moments bytes more h over is.
          unrefused _ settings moments bytes more h
          (λ given front.
          c.fault.ensures.none settings _ h.sent more false given h.stands (ap is_dead over) (inr (refl, λ reads. (let never = sym over ∙ reads in cc))) front
          (λ waits. (let never = sym waits ∙ ap is_waiting over in absurd (cc))) (none_told c.fault.result (sym c.is_some.ensures ∙ is)));
    })
