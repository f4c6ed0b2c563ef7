-- The first fault of a connection of a world.
use Rattle.std.specs.Prelude.{◌≡◌, ◌≢◌, ℕ, false, List, length, Option, Some, None, IfSome}
use Rattle.std.specs.List.{slice_get}
use Rattle.s3_config.specs.Settings.{Settings}
use Rattle.s3_terms.specs.declared.code.Code.{Code}
use Rattle.s3_store.specs.Steps.{Standing as Base}
use Rattle.s3_machine.specs.History.{Entry}
use Rattle.s3_journal.specs.Recorded.{Recorded}
use Rattle.s3_session.specs.Fault.{IsFault}
use Rattle.s3_session.specs.Output.{Over, is_dead, is_waiting}
use Rattle.s3_session.specs.declared.fault.Fault.{Fault}
use Rattle.s3_events.specs.declared.event.Event.{Event}
use Rattle.s3_connection.specs.Output.{Input}
use Rattle.s3_simulation.specs.Events.{received}
use Rattle.s3_simulation.specs.Moments.{handed}
use Rattle.s3_simulation.specs.Played.{Playing, Plays, standing_of}
use Rattle.s3_simulation.specs.Run.{RunsFrom, moments_of}

-- of a connection that received this, whose messages have the moments of a list, this message is the first that is refused, and this
-- is the code
abbrev pub FaultOf : Settings → List ℕ → Input → ℕ → Code → Type 0
FaultOf settings moments input number code = (count : ℕ) × IsFault settings input.bytes input.ended (handed moments count) number code

-- none of its messages is refused
abbrev pub HasNoFaultOf : Settings → List ℕ → Input → Type 0
HasNoFaultOf settings moments input = (number : ℕ) (code : Code) → ¬ (FaultOf settings moments input number code)

-- The first faults that are told of the connections of a run, in the order of their numbers: each that is told is one, of a connection
-- that is over, so that memory didn't run out in it; and a connection of which none is told has none, unless memory ran out in it, or a
-- command of it waits, behind which messages may stand.
pub record AreTold (base : Base) (settings : Settings) (moments : List (List ℕ)) (happened : List Event) (outs : List (List ℕ)) (entries : List Recorded)
    (run : RunsFrom base settings moments happened outs entries) (told : List (Option Fault)) : Type 0 where
  pub each : length told ≡ length moments
  pub some : (c : ℕ) (fault : Fault) → slice_get told c ≡ Some (Some fault)
      → FaultOf settings (moments_of c moments) (received c happened) fault.message fault.code
  pub over : (c : ℕ) (fault : Fault) → slice_get told c ≡ Some (Some fault) → run.standing c ≡ Over
  pub none : (c : ℕ) → slice_get told c ≡ Some None → is_dead (run.standing c) ≡ false → is_waiting (run.standing c) ≡ false
      → HasNoFaultOf settings (moments_of c moments) (received c happened)

-- The rest serves clauses of private functions alone.

-- this is told of a connection: its first fault; and where none is told, memory didn't run out in it and no command of it waits, it
-- has none
pub record Tells (p : Playing) (told : Option Fault) : Type 0 where
  pub some : (settings : Settings) (moments : List ℕ) (input : Input) (entries : List Entry) → Plays p settings moments input entries
      → IfSome told (λ fault. FaultOf settings moments input fault.message fault.code)
  pub over : told ≢ None → standing_of p ≡ Over
  pub none : (settings : Settings) (moments : List ℕ) (input : Input) (entries : List Entry) → Plays p settings moments input entries
      → is_dead (standing_of p) ≡ false → is_waiting (standing_of p) ≡ false → told ≡ None → HasNoFaultOf settings moments input

-- so of one that may not be there
abbrev pub TellsIn : Option Playing → Option Fault → Type 0
TellsIn None told = told ≡ None
TellsIn (Some p) told = Tells p told
