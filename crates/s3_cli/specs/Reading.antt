-- How the input of a replay is read and answered. Only clauses of private functions cite what is here: nobody has to believe it.
use Rattle.std.specs.Prelude.{◌≡◌, ◌≢◌, ◌⊎◌, ℕ, ⊤, true, false, List, ◌++◌, length, Option, Some, None}
use Rattle.std.specs.Borrow.{Bor}
use Rattle.std.specs.List.{slice_get}
use Rattle.s3_config.specs.Settings.{Settings}
use Rattle.s3_settings.specs.declared.fault.Fault.{Fault}
use Rattle.s3_settings.specs.declared.fault.Fault.TheVariants.{BadEventLine, CannotUse, InputFailed, OutOfMemory}
use Rattle.s3_settings.specs.declared.mode.ReplayMode.{ReplayMode}
use Rattle.s3_settings.specs.Devices.{FailsToGive, GivesAll, GivesSome}
use Rattle.s3_storage.specs.declared.storage_fault.StorageFault.{StorageFault}
use Rattle.s3_storage.specs.declared.storage_fault.StorageFault.TheVariants as storage
use Rattle.s3_records.specs.declared.commit.CommitError.{CommitError}
use Rattle.s3_records.specs.declared.commit.CommitError.TheVariants as commits
use Rattle.s3_store.specs.Steps.{Standing}
use Rattle.s3_devices.specs.Device.{Traffic}
use Rattle.s3_text.specs.Lines.{lines_of, IsFirstBadLine}
use Rattle.s3_session.specs.Output.{Over, is_dead, is_waiting}
use Rattle.s3_session.specs.declared.fault.Fault.{Fault as FirstFault}
use Rattle.s3_events.specs.Lines.{AreEventLines}
use Rattle.s3_events.specs.declared.event.Event.{Event}
use Rattle.s3_simulation.specs.Events.{received}
use Rattle.s3_simulation.specs.Faults.{FaultOf, HasNoFaultOf}
use Rattle.s3_simulation.specs.Replaying.{HasTaken, Replaying}
use Rattle.s3_simulation.specs.Run.{moments_of}
use Rattle.s3_simulation.specs.Shown.{standing_at}
use Rattle.s3_simulation.specs.World.{Serving}
use Rattle.s3_cli.specs.Faults.{faults_text}
use Rattle.s3_cli.specs.Run.{GivesBadLine, reads_events}

-- why all that a device gives has no answer in a mode, and what it gave by then
abbrev pub IsAnswerFault : ReplayMode → Traffic → Traffic → Fault → Type 0
IsAnswerFault mode old new (BadEventLine number) = (reads_events mode ≡ true) × GivesBadLine old new number
IsAnswerFault mode old new InputFailed = FailsToGive old new
IsAnswerFault mode old new OutOfMemory = GivesSome old new
IsAnswerFault mode old new _ = ⊥

-- why it can't be read, or not be kept
abbrev pub IsReadingFault : Traffic → Traffic → Fault → Type 0
IsReadingFault old new InputFailed = FailsToGive old new
IsReadingFault old new OutOfMemory = GivesSome old new
IsReadingFault old new _ = ⊥

-- a replay was fed with these bytes
abbrev pub IsFed : Replaying → Replaying → List ℕ → Type 0
IsFed old new given =
    (base : Standing) (settings : Settings) (moment : ℕ) (bytes : List ℕ)
    → HasTaken old base settings moment bytes → HasTaken new base settings moment (bytes ++ given)

-- what is told where a folder doesn't commit
abbrev pub commit_fault : Bor (List ℕ) → CommitError → Fault
commit_fault path commits.NoMemory = CannotUse path storage.NoRoom
commit_fault path commits.Failed = CannotUse path storage.Failed

-- why the records of a folder can't be opened
abbrev pub IsOpeningFault : Bor (List ℕ) → Fault → Type 0
IsOpeningFault path fault = ((why : StorageFault) × (fault ≡ CannotUse path why)) ⊎ (fault ≡ OutOfMemory)

-- why what was read has no answer that a folder keeps
abbrev pub IsKeepingFault : Bor (List ℕ) → Fault → Type 0
IsKeepingFault path fault = ((error : CommitError) × (fault ≡ commit_fault path error)) ⊎ (fault ≡ OutOfMemory)

-- why all that a device gives has none, over a store that was opened in the folder: the device gave it, and the folder didn't commit; or
-- such a fault of the input
abbrev pub IsOpenedFault : Bor (List ℕ) → (Traffic → Traffic → Fault → Type 0) → Traffic → Traffic → Fault → Type 0
IsOpenedFault path IsInputFault old new fault =
    ((error : CommitError) × (fault ≡ commit_fault path error) × GivesAll (λ bytes. ⊤) old new) ⊎ IsInputFault old new fault

-- why it has none, and what the device gave by then
abbrev pub IsKeptFault : Bor (List ℕ) → ReplayMode → Traffic → Traffic → Fault → Type 0
IsKeptFault path mode old new fault = ((new ≡ old) × IsOpeningFault path fault) ⊎ IsOpenedFault path (IsAnswerFault mode) old new fault

-- the same, in memory or in a folder
abbrev pub IsOverFault : Option (Bor (List ℕ)) → ReplayMode → Traffic → Traffic → Fault → Type 0
IsOverFault None mode old new fault = IsAnswerFault mode old new fault
IsOverFault (Some path) mode old new fault = IsKeptFault path mode old new fault

-- why event lines have none
abbrev pub IsLinesFault : List ℕ → Fault → Type 0
IsLinesFault text (BadEventLine number) = IsFirstBadLine AreEventLines (lines_of text) number
IsLinesFault text OutOfMemory = ⊤
IsLinesFault text _ = ⊥

-- this is told of the connection of a number of a world after some events: its first fault, and then it is over; or none where it has
-- none, memory didn't run out in it, and no command of it waits
pub record IsToldOf (world : Serving) (moments : List (List ℕ)) (happened : List Event) (c : ℕ) (told : Option FirstFault) : Type 0 where
  pub some : (fault : FirstFault) → told ≡ Some fault
      → FaultOf world.settings (moments_of c moments) (received c happened) fault.message fault.code
  pub over : told ≢ None → standing_at world.connections c ≡ Over
  pub none : told ≡ None → is_dead (standing_at world.connections c) ≡ false → is_waiting (standing_at world.connections c) ≡ false
      → HasNoFaultOf world.settings (moments_of c moments) (received c happened)

-- behind a text stand the lines of what is told of the first connections, so many
pub record TellsFirst (world : Serving) (moments : List (List ℕ)) (happened : List Event) (count : ℕ) (before after : List ℕ) : Type 0 where
  pub told : List (Option FirstFault)
  pub many : length told ≡ count
  pub each : (c : ℕ) (fault : Option FirstFault) → slice_get told c ≡ Some fault → IsToldOf world moments happened c fault
  pub printed : after ≡ before ++ faults_text told
