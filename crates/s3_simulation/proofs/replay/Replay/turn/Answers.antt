use Rattle.std.proofs.Common.{[], ◌∷◌, false, ap, subst, sym, ◌∙◌}
use Rattle.s3_journal.specs.Recorded.{history_of}
use Rattle.s3_simulation.specs.Played.{Plays}
use Rattle.s3_simulation.specs.Replaying.{HasCome, Replaying}
use Rattle.s3_simulation.proofs.EntryLemmas.{history_more}
use Rattle.s3_simulation.proofs.ReplayLemmas.{goes_on}
use Rattle.s3_simulation.proofs.replay.Replay.turn.Goals as goal

pub returns-clause-stays : goal.returns-clause-stays
returns-clause-stays g c base settings moment bytes h =
    let held = subst (λ (r : Replaying). HasCome r base settings moment bytes) (sym c.self.view_is) h in
    let recorded_store = c.self.inside.recorded_store in
    let on = c.take_turn.ensures.goes_on in
    goes_on _ base settings moment bytes bytes c.take_turn.new.self c.take_turn.new.recorded_store held
    (λ plays.
    subst (Plays c.take_turn.new.self c.self.inside.config.now (moment ∷ []) (record { bytes = bytes; ended = false }))
    (sym (ap history_of on.added ∙ history_more recorded_store.entries on.made))
    (on.plays (moment ∷ []) (record { bytes = bytes; ended = false }) (history_of recorded_store.entries) plays))
    c.take_turn.ensures.rules c.take_turn.ensures.opens
