-- What holds of all runs.
use Rattle.std.specs.Prelude.{◌≡◌, ◌<◌, ℕ, false, List, length}
use Rattle.s3_config.specs.Settings.{Settings}
use Rattle.s3_journal.specs.Recorded.{Recorded}
use Rattle.s3_session.specs.Output.{is_dead}
use Rattle.s3_events.specs.declared.event.Event.{Event}
use Rattle.s3_simulation.specs.Events.{received, turns_given}
use Rattle.s3_simulation.specs.Run.{Runs}

-- the events bring the same to each connection, in the whole and up to each turn of it, and give the same turns in the
-- same order: so it is where pieces are cut otherwise, or stand at another place before their connection's next turn
pub record AreAlike (happened other : List Event) : Type 0 where
  pub turns : turns_given happened ≡ turns_given other
  pub inputs : (c : ℕ) → received c happened ≡ received c other

-- in no connection memory ran out
abbrev pub IsWhole : (settings : Settings) (moments : List (List ℕ)) (happened : List Event) (outs : List (List ℕ)) (entries : List Recorded)
    → Runs settings moments happened outs entries → Type 0
IsWhole settings moments happened outs entries run = (c : ℕ) → c < length moments → is_dead (run.standing c) ≡ false

-- Where memory does not run out, settings, moments and events fix every entry and every output, and events that are alike
-- leave the same ones.
abbrev pub OneRun : Type 0
OneRun =
    (settings : Settings) (moments : List (List ℕ)) (happened other : List Event) (outs outs' : List (List ℕ)) (entries entries' : List Recorded)
    (run : Runs settings moments happened outs entries) (run' : Runs settings moments other outs' entries')
    → IsWhole settings moments happened outs entries run → IsWhole settings moments other outs' entries' run'
    → AreAlike happened other
    → (entries ≡ entries') × (outs ≡ outs')
