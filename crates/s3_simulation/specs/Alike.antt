-- Which events are alike, and what a connection shows in which memory ran out.
use Rattle.std.specs.Prelude.{◌≡◌, ◌≢◌, ◌<◌, ◌&&◌, ℕ, Bool, true, false, List, ◌∷◌, ◌++◌, length}
use Rattle.std.specs.Global.{Vec}
use Rattle.s3_config.specs.Settings.{Settings}
use Rattle.s3_replies.specs.Replies.{internal_error}
use Rattle.s3_journal.specs.Recorded.{Recorded}
use Rattle.s3_session.specs.Output.{is_dead}
use Rattle.s3_events.specs.declared.event.Event.{Event}
use Rattle.s3_events.specs.declared.event.Event.TheVariants as events
use Rattle.s3_events.specs.Script.{connection_of_event}
use Rattle.s3_simulation.specs.Laws.{AreAlike}
use Rattle.s3_simulation.specs.Run.{Runs, output_of}

abbrev pub is_turn : Event → Bool
is_turn (events.Turn c) = true
is_turn _ = false

-- a piece may be cut in two
abbrev pub CutsAreAlike : Type 0
CutsAreAlike =
    (before later : List Event) (connection : ℕ) (whole first second : Vec ℕ)
    → whole.items ≡ first.items ++ second.items
    → AreAlike (before ++ events.Piece connection whole ∷ later) (before ++ events.Piece connection first ∷ events.Piece connection second ∷ later)

-- two events that follow each other may change places where they are of different connections, and not both turns
abbrev pub MovesAreAlike : Type 0
MovesAreAlike =
    (before later : List Event) (x y : Event)
    → connection_of_event x ≢ connection_of_event y → (is_turn x && is_turn y) ≡ false
    → AreAlike (before ++ x ∷ y ∷ later) (before ++ y ∷ x ∷ later)

-- the output of a connection in which memory ran out ends with what stands for a reply then
abbrev pub DeathsShow : Type 0
DeathsShow =
    (settings : Settings) (moments : List (List ℕ)) (happened : List Event) (outs : List (List ℕ)) (entries : List Recorded)
    (run : Runs settings moments happened outs entries) (c : ℕ)
    → c < length moments → is_dead (run.standing c) ≡ true
    → (before : List ℕ) × (output_of c outs ≡ before ++ internal_error)
