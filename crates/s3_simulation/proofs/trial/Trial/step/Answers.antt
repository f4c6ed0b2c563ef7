use Rattle.std.proofs.Common.{◌∙◌, ap, length, subst, sym, IfOk}
use Rattle.s3_simulation.specs.Trying.{HasStepped, StepsOn, TellsRefused, Trying, added_up, up_to_if}
use Rattle.s3_simulation.specs.declared.trial.Step.{Step}
use Rattle.s3_simulation.proofs.PlayedLemmas.{timed_one}
use Rattle.s3_simulation.proofs.StepLemmas.{stepped, steps_on}
use Rattle.s3_simulation.proofs.trial.Trial.step.Goals as goal

pub returns-clause-steps : goal.returns-clause-steps
returns-clause-steps c moments bytes h =
    let settings = c.args.config.now in
    let p = c.pass-len in
    let refused = c.is_refused-refused in
    let counted = c.in_ok-count.ensures in
    subst (λ (v : Trying). IfOk c.step_behind.result (λ (step : Step). HasStepped step v settings moments bytes c.args.piece.now)) (sym counted)
    (stepped c.args.self.now p.new.self settings moments bytes c.args.piece.now p.result.0 refused.result c.cut-kept.result h (p.ensures.tries moments bytes h.tried)
    p.ensures.taken p.ensures.within (subst (λ (v : Trying). TellsRefused v refused.result) counted refused.ensures)
    c.sessions_write.ensures c.outputs_stay.ensures c.faults_are_one.ensures.stay (timed_one c.outputs_are_one.ensures) p.result.1 p.ensures.standing
    (p.ensures.all moments bytes h.tried) (p.ensures.first moments bytes h.tried h.clean) p.ensures.sound
    (c.cut-kept.ensures ∙ ap (λ (v : Trying). up_to_if v.is_sound v.taken) counted) c.step_behind.result c.step_behind.ensures)

pub returns-clause-on : goal.returns-clause-on
returns-clause-on c =
    let p = c.pass-len in
    let size = length c.args.piece.now in
    subst (λ (v : Trying). IfOk c.step_behind.result (λ (step : Step). StepsOn step v size)) (sym c.in_ok-count.ensures)
    (steps_on (added_up p.new.self p.result.0) size p.result.0 c.is_refused-refused.result c.cut-kept.result p.result.1 p.ensures.standing p.ensures.end p.ensures.within
    c.step_behind.result c.step_behind.ensures)
