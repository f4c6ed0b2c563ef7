use Rattle.std.proofs.Common.{◌∙◌, ap, subst, sym}
use Rattle.s3_simulation.specs.Trying.{HasTried, Trying}
use Rattle.s3_simulation.proofs.TrialLemmas.{tried_answered}
use Rattle.s3_simulation.proofs.trial.Trial.answer.Goals as goal

pub returns-clause-tries : goal.returns-clause-tries
returns-clause-tries c settings moments bytes h sound =
    let held = subst (λ (t : Trying). HasTried t settings moments bytes) (sym c.self.view_is) h in
    tried_answered _ _ settings moments bytes _ _ held (ap (λ (t : Trying). t.is_sound) c.self.view_is ∙ sound) (c.sent.ensures.stands settings _ held.sent (c.answer-next.ensures.stands settings _ held.sent held.stands))
