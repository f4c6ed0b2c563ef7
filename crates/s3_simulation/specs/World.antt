-- A world: connections, and the recorded store that they share. What its connections show is another file's (`Shown`), and
-- how it stands after some events (`StandsAfter`).
use Rattle.std.specs.Prelude.{◌≡◌, ◌⊎◌, ◌+◌, Bool, List, length, Option, Some, None}
use Rattle.s3_config.specs.Settings.{Settings}
use Rattle.s3_machine.specs.declared.turn.Turn.{Turn}
use Rattle.s3_journal.specs.RecordedStore.{Journal, MayLack}
use Rattle.s3_events.specs.declared.event.Event.{Event}
use Rattle.s3_events.specs.declared.event.Event.TheVariants as events
use Rattle.s3_events.specs.Script.{connection_of_event}
use Rattle.s3_simulation.specs.Played.{Playing}
use Rattle.s3_simulation.specs.Shown.{waiting_at}

-- a world: the settings, the connections by their numbers, and their recorded store
pub record Serving : Type 0 where
  pub settings : Settings
  pub connections : List Playing
  pub recorded_store : Journal

-- the turn that waited has its entry, or memory may be lacking for it
abbrev pub IsEntered : Bool → Journal → Journal → Option Turn → Type 0
IsEntered in_memory old new None = Unit {0}
IsEntered in_memory old new (Some turn) = (length new.entries ≡ length old.entries + 1) ⊎ MayLack in_memory old.rules old.store turn

-- the turn that an event gives to a connection, if it gives one and a command waits for it
abbrev pub given_by : Event → Option Turn → Option Turn
given_by (events.Turn c) waits = waits
given_by _ waits = None

abbrev pub turn_of_event : List Playing → Event → Option Turn
turn_of_event connections event = given_by event (waiting_at connections (connection_of_event event))
