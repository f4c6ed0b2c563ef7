-- How a world stands after some events.
-- `StandsAfter` is what the clauses of a world carry along. What it comes to is a law, `worlds_run`: a run. So its inside need
-- not be believed. A reader believes the law at the end; the others serve `StandsAfter` and the clauses of private functions
-- alone.
use Rattle.std.specs.Prelude.{◌≡◌, ◌≢◌, ◌⊎◌, ℕ, Bool, true, List, [], ◌∷◌, ◌++◌, length, Option, Some, None}
use Rattle.std.specs.List.{slice_get}
use Rattle.s3_config.specs.Settings.{Settings}
use Rattle.s3_machine.specs.History.{Entry}
use Rattle.s3_machine.specs.declared.command.Answer.{Answer}
use Rattle.s3_machine.specs.declared.turn.Turn.{Turn}
use Rattle.s3_machine.specs.Rules.{rules_of}
use Rattle.s3_session.specs.Output.{is_dead}
use Rattle.s3_journal.specs.RecordedStore.{Journal, KeepsHistory}
use Rattle.s3_journal.specs.Recorded.{Recorded, entries_of_seat, history_of, recorded}
use Rattle.s3_events.specs.declared.event.Event.{Event}
use Rattle.s3_events.specs.declared.event.Event.TheVariants as events
use Rattle.s3_events.specs.Script.{connection_of_event}
use Rattle.s3_connection.specs.Connection as connections
use Rattle.s3_connection.specs.Connection.{nothing_received}
use Rattle.s3_connection.specs.Output.{Input}
use Rattle.s3_simulation.specs.Events.{received, turns_given}
use Rattle.s3_simulation.specs.Played.{Playing, Plays, standing_of, turn_of}
use Rattle.s3_simulation.specs.Run.{AreTaken, RunsFrom, moments_of}
use Rattle.s3_simulation.specs.Shown.{standing_at, written_by_all}
use Rattle.s3_simulation.specs.World.{Serving, given_by}

-- memory ran out in a connection
abbrev pub is_lost_in : List Playing → ℕ → Bool
is_lost_in connections c = is_dead (standing_at connections c)

-- a world stands so after these events
pub record StandsAfter (world : Serving) (moments : List (List ℕ)) (happened : List Event) : Type 0 where
  pub each : length world.connections ≡ length moments
  pub plays : (c : ℕ) (b : Playing) → slice_get world.connections c ≡ Some b
      → Plays b world.settings (moments_of c moments) (received c happened) (entries_of_seat c world.recorded_store.entries)
  pub rules : world.recorded_store.rules ≡ rules_of world.settings
  pub keeps : KeepsHistory world.recorded_store
  pub taken : AreTaken world.settings moments (is_lost_in world.connections) [] (turns_given happened) world.recorded_store.entries

-- nothing came of a connection whose messages have these moments
abbrev pub IsFresh : Playing → List ℕ → Type 0
IsFresh b moments = (settings : Settings) → Plays b settings moments nothing_received []

-- so many of these connections were made, each for its list of moments
pub record AreFresh (connections : List Playing) (moments : List (List ℕ)) (made : ℕ) : Type 0 where
  pub count : length connections ≡ made
  pub fresh : (c : ℕ) (b : Playing) → slice_get connections c ≡ Some b → IsFresh b (moments_of c moments)

-- what a connection has received with this event of its own
abbrev pub heard : Event → Input → Input
heard (events.Piece c bytes) input = connections.received input bytes.items
heard (events.End c) input = record { bytes = input.bytes; ended = true }
heard (events.Turn c) input = input

-- the entries that are made of a turn that is given: its own, or none where memory ran out at it, and then the connection is dead
abbrev pub AreMade : ℕ → Option Turn → Playing → List Recorded → Type 0
AreMade seat None d made = made ≡ []
AreMade seat (Some turn) d made =
    ((answer : Answer) × (made ≡ recorded seat turn answer ∷ [])) ⊎ ((made ≡ []) × (is_dead (standing_of d) ≡ true))

-- a connection went on so with an event of its own, and these entries became those
pub record GoesOn (settings : Settings) (e : Event) (b d : Playing) (before after : List Recorded) : Type 0 where
  pub made : List Recorded
  pub added : after ≡ before ++ made
  pub are : AreMade (connection_of_event e) (given_by e (turn_of b)) d made
  pub plays : (moments : List ℕ) (input : Input) (entries : List Entry) → Plays b settings moments input entries
      → Plays d settings moments (heard e input) (entries ++ history_of made)
  pub dead : is_dead (standing_of b) ≡ true → is_dead (standing_of d) ≡ true

-- the connection of a number went on so; where there is none, no entry was made
abbrev pub WentOn : Settings → Event → Option Playing → Option Playing → List Recorded → List Recorded → Type 0
WentOn settings e None None before after = after ≡ before
WentOn settings e None (Some d) before after = ⊥
WentOn settings e (Some b) None before after = ⊥
WentOn settings e (Some b) (Some d) before after = GoesOn settings e b d before after

-- an event happened to its connection, and to no other
pub record HasHappened (settings : Settings) (e : Event) (old new : List Playing) (before after : Journal) : Type 0 where
  pub count : length new ≡ length old
  pub others : (k : ℕ) → k ≢ connection_of_event e → slice_get new k ≡ slice_get old k
  pub own : WentOn settings e (slice_get old (connection_of_event e)) (slice_get new (connection_of_event e)) before.entries after.entries
  pub rules : after.rules ≡ before.rules
  pub opens : after.opening ≡ before.opening

-- a world that stands after some events has made a run of them over the store with which it began, in which its connections stand as
-- they do, and whose outputs are what they wrote
abbrev pub WorldsRun : Type 0
WorldsRun =
    (world : Serving) (moments : List (List ℕ)) (happened : List Event)
    → StandsAfter world moments happened
    → (run : RunsFrom world.recorded_store.opening world.settings moments happened (written_by_all world.connections) world.recorded_store.entries)
    × ((c : ℕ) → run.standing c ≡ standing_at world.connections c)
