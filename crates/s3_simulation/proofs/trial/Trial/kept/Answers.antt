use Rattle.std.proofs.Common.{◌∙◌, ap, refl, subst, sym}
use Rattle.s3_session.specs.Session.{standing_of}
use Rattle.s3_simulation.specs.Trimmed.{IsShare}
use Rattle.s3_simulation.specs.Trying.{Tries, Trying, unended}
use Rattle.s3_simulation.proofs.PlayedLemmas.{timed_one}
use Rattle.s3_simulation.proofs.ShareLemmas.{share_kept}
use Rattle.s3_simulation.proofs.trial.Trial.kept.Goals as goal

pub returns : goal.returns
returns c settings moments bytes h =
    let held = subst (λ (t : Trying). Tries t settings moments bytes) (sym c.self.view_is) h in
    subst (IsShare settings moments (unended bytes)) (sym c.all_if.ensures)
    (share_kept c.sessions_write.ensures c.faults_are_one.ensures.stay (timed_one c.outputs_are_one.ensures) _ settings moments bytes held
    (ap (λ (t : Trying). standing_of t.session) c.self.view_is ∙ c.requires.reads.0) _ refl)
