use Rattle.std.proofs.Common.{[], ◌∷◌, ◌++◌, ◌∙◌, List, ap, arith, refl, subst, sym, take}
use Rattle.std.proofs.lemmas.List.{take_all, take_more}
use Rattle.s3_events.specs.declared.event.Event.{Event}
use Rattle.s3_simulation.specs.Entered.{EntersEach}
use Rattle.s3_simulation.specs.StandsAfter.{StandsAfter}
use Rattle.s3_simulation.proofs.EnteredLemmas.{enters_more}
use Rattle.s3_simulation.proofs.running.step_all.Goals as goal

pub loop-number-init : goal.loop-number-init
loop-number-init g c = record { stands = λ moments s. s; settings = refl; opens = refl; entered = λ moments s. refl }

pub loop-number-preserved : goal.loop-number-preserved
loop-number-preserved g c =
    let before = take c.loop-number.number c.args.events.now in
    let more = ap (λ (e : Event). before ++ e ∷ []) c.index-events-number.is ∙ sym (take_more c.args.events.now c.loop-number.number c.index-events-number.result c.loop-number-test.true) in
    record {
      stands = λ moments s.
          subst (λ (events : List Event). StandsAfter c.step.new.self moments events) more
          (c.in_ok-step.ensures.stands moments before (c.loop-number.invariant.stands moments s));
      entered = λ moments s.
          subst (λ (events : List Event). EntersEach g.R.Records.is_in_memory moments [] c.args.world.now events c.step.new.self) more
          (enters_more g.R.Records.is_in_memory moments [] c.args.world.now before c.loop-number.world _ c.step.new.self (c.loop-number.invariant.entered moments s) c.in_ok-step.ensures.settings c.in_ok-step.ensures.opens
          (c.in_ok-step.ensures.stands moments before (c.loop-number.invariant.stands moments s)) c.in_ok-step.ensures.entered);
      settings = c.in_ok-step.ensures.settings ∙ c.loop-number.invariant.settings;
      opens = c.in_ok-step.ensures.opens ∙ c.loop-number.invariant.opens;
    }

pub returns : goal.returns
returns g c = record {
  stands = λ moments s.
      subst (λ (events : List Event). StandsAfter c.loop-number.world moments events) (take_all c.loop-number.number c.args.events.now (omega arith))
      (c.loop-number.invariant.stands moments s);
  settings = c.loop-number.invariant.settings;
  opens = c.loop-number.invariant.opens;
  entered = λ moments s.
      subst (λ (events : List Event). EntersEach g.R.Records.is_in_memory moments [] c.args.world.now events c.loop-number.world) (take_all c.loop-number.number c.args.events.now (omega arith))
      (c.loop-number.invariant.entered moments s);
}
