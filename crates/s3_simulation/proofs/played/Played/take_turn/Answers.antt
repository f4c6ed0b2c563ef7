use Rattle.std.proofs.Common.{[], ◌∙◌, ap, subst, sym}
use Rattle.s3_connection.specs.Connection.{Connected, entries_with}
use Rattle.s3_events.specs.declared.event.Event.TheVariants.{Turn}
use Rattle.s3_simulation.specs.Played.{Playing, turn_of}
use Rattle.s3_simulation.specs.StandsAfter.{GoesOn}
use Rattle.s3_simulation.proofs.ChangeLemmas.{entered_by, had_turn, no_turn, none_told}
use Rattle.s3_simulation.proofs.PlayedLemmas.{some_asked}
use Rattle.s3_simulation.proofs.played.Played.take_turn.Goals as goal

pub returns-in_default-clause-goes_on : goal.returns-in_default-clause-goes_on
returns-in_default-clause-goes_on g c =
    let none = none_told c.take_turn.result c.in_default.not-Some in
    no_turn c.args.config.now c.args.seat c.args.self.now _ c.args.recorded_store.now.entries (sym (ap turn_of c.self.view_is) ∙ sym c.take_turn.ensures.value ∙ none)
    (ap (λ (k : Connected). record { connection = k; moments = c.self.inside.moments.now }) (c.take_turn.ensures.none none) ∙ c.self.view_is)

pub returns-clause-goes_on : goal.returns-clause-goes_on
returns-clause-goes_on g c =
    let settings = c.args.config.now in
    let turn = c.in-Some.turn in
    let answered = c.enter-answered.result in
    let taken = c.take_turn.ensures.taken (some_asked c.take_turn.result _ turn c.take_turn.ensures.value c.in-Some.is) ∙ c.in-Some.is in
    subst (λ (p : Playing). GoesOn settings (Turn c.args.seat) p c.go_on.new.self c.args.recorded_store.now.entries c.enter-answered.new.self.entries) c.self.view_is
    (had_turn settings c.args.seat _ c.go_on.new.self _ c.args.recorded_store.now c.enter-answered.new.self turn c.take_turn.result answered
    c.take_turn.ensures.value c.in-Some.is c.in-Some.ensures.waits c.enter-answered.ensures.entry c.enter-answered.ensures.err
    c.answer.ensures.dies c.go_on.ensures.closed
    (λ moments input entries h. (
      c.go_on.ensures.carries moments input (entries_with entries turn answered)
          (record {
            count = h.0.count;
            hands = h.0.hands;
            holds = c.answer.ensures.holds settings input _ entries turn [] taken (c.take_turn.ensures.holds settings input _ entries [] h.0.holds);
          }),
      c.go_on.ensures.idle c.answer.ensures.taken,
    )))

pub returns-clause-some : goal.returns-clause-some
returns-clause-some g c has = some_asked c.take_turn.result _ c.in-Some.turn (c.take_turn.ensures.value ∙ ap turn_of c.self.view_is) c.in-Some.is

pub returns-clause-entered : goal.returns-clause-entered
returns-clause-entered g c =
    entered_by g.R.Records.is_in_memory c.args.recorded_store.now c.enter-answered.new.self c.args.seat c.in-Some.turn c.take_turn.result _ c.enter-answered.result
    (c.take_turn.ensures.value ∙ ap turn_of c.self.view_is) c.in-Some.is c.enter-answered.ensures.entry c.enter-answered.ensures.memory
