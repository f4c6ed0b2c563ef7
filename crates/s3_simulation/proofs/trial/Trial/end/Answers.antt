use Rattle.std.proofs.Common.{◌∙◌, true, ap, refl, subst, sym}
use Rattle.s3_session.specs.Output.{is_dead, is_waiting}
use Rattle.s3_session.specs.Session.{standing_of}
use Rattle.s3_simulation.specs.Trimmed.{IsShare}
use Rattle.s3_simulation.specs.Trying.{Tries, Trying}
use Rattle.s3_simulation.proofs.PlayedLemmas.{timed_one}
use Rattle.s3_simulation.proofs.ShareLemmas.{share_ended}
use Rattle.s3_simulation.proofs.trial.Trial.end.Goals as goal

pub returns : goal.returns
returns c settings moments bytes h =
    let held = subst (λ (t : Trying). Tries t settings moments bytes) (sym c.self.view_is) h in
    let reads = ap (λ (t : Trying). standing_of t.session) c.self.view_is ∙ c.requires.reads.0 in
    subst (IsShare settings moments (record { bytes = bytes; ended = true })) (sym c.all_if.ensures)
    (share_ended c.sessions_write.ensures c.outputs_stay.ensures c.faults_are_one.ensures.stay (timed_one c.outputs_are_one.ensures) _ c.end.new.self settings moments bytes held
    (c.end.ensures.stands settings _ held.tried.sent held.tried.stands) (c.end.ensures.lives ∙ ap is_dead reads) (c.end.ensures.waits ∙ ap is_waiting reads) _ refl)
