-- What a run of `s3d` does, over the traffic of its device, whose two sides are the input and the output.
use Rattle.std.specs.Prelude.{◌≡◌, ◌⊎◌, ⊤, IsTrue, ℕ, Bool, true, false, not, ◌&&◌, List, ◌++◌, Option, Some, None, is_some, option_map}
use Rattle.std.specs.Borrow.{Bor}
use Rattle.s3_config.specs.Settings.{Settings}
use Rattle.s3_settings.specs.declared.fault.Fault.{Fault}
use Rattle.s3_settings.specs.declared.fault.Fault.TheVariants.{CannotRead, CannotWrite, BadKeysLine, BadEventLine, BadSetting, CannotListen, CannotUse, InputFailed, OutputFailed, OutOfMemory}
use Rattle.s3_settings.specs.declared.options.ReplayOptions.{ReplayOptions}
use Rattle.s3_settings.specs.declared.mode.ReplayMode.{ReplayMode}
use Rattle.s3_settings.specs.declared.mode.ReplayMode.TheVariants.{AtMoment, Events}
use Rattle.s3_settings.specs.declared.settings.Setup.{Setup}
use Rattle.s3_devices.specs.Device.{Traffic}
use Rattle.s3_settings.specs.Devices.{FailsToGive, GivesAll, GivesSome, IsTold, Takes, TakesBeginning}
use Rattle.s3_settings.specs.Fault.{line_of}
use Rattle.s3_settings.specs.Settings.{replay_mode, are_options, IsSetupOf, IsConfigured, HasSettings, HasConfigFault}
use Rattle.s3_storage.specs.declared.storage_fault.StorageFault.{StorageFault}
use Rattle.s3_storage.specs.declared.storage_fault.StorageFault.TheVariants as storage
use Rattle.s3_records.specs.Catalogue.{opening}
use Rattle.s3_store.specs.Steps.{Standing, opened}
use Rattle.s3_keepers.specs.Begun.{HasBuckets}
use Rattle.s3_machine.specs.Bases.{IsSoundBase}
use Rattle.s3_session.specs.Replay.{Replays}
use Rattle.s3_session.specs.declared.fault.Fault.{Fault as FirstFault}
use Rattle.s3_text.specs.Lines.{lines_of, IsFirstBadLine}
use Rattle.s3_events.specs.declared.script.Script.{Script}
use Rattle.s3_events.specs.Lines.{AreEventLines}
use Rattle.s3_events.specs.Printing.{outputs_text}
use Rattle.s3_events.specs.Script.{IsScriptOf}
use Rattle.s3_journal.specs.Recorded.{Recorded}
use Rattle.s3_simulation.specs.Faults.{AreTold}
use Rattle.s3_simulation.specs.Replaying.{ReplaysFrom}
use Rattle.s3_simulation.specs.Run.{RunsFrom, each_moments}
use Rattle.s3_command_line.specs.declared.task.Task.{Task}
use Rattle.s3_command_line.specs.declared.task.Task.TheVariants.{Replay, Sign}
use Rattle.s3_cli.specs.Faults.{faults_text}
use Rattle.s3_cli.specs.Sign.{IsTextOf, IsSignFault}
use Rattle.s3_command_line.specs.Words.{IsReadFrom}

-- the options say how the input is read, and those on the settings are of their forms
abbrev pub are_replay_options : ReplayOptions → Bool
are_replay_options o = is_some (replay_mode o) && are_options o.common

-- the text is what a script is answered over a store that stood so: the lines of what its connections wrote in a run of its events
pub record IsScriptAnswered (base : Standing) (settings : Settings) (script : Script) (out : List ℕ) : Type 0 where
  pub outs : List (List ℕ)
  pub entries : List Recorded
  pub runs : RunsFrom base settings (each_moments script.moments.items) script.events.items outs entries
  pub printed : out ≡ outputs_text outs

-- the same with faults: behind those lines stand those of the first faults that are told of the connections of the run
pub record IsScriptAnsweredWithFaults (base : Standing) (settings : Settings) (script : Script) (out : List ℕ) : Type 0 where
  pub outs : List (List ℕ)
  pub entries : List Recorded
  pub runs : RunsFrom base settings (each_moments script.moments.items) script.events.items outs entries
  pub told : List (Option FirstFault)
  pub faults : AreTold base settings (each_moments script.moments.items) script.events.items outs entries runs told
  pub printed : out ≡ outputs_text outs ++ faults_text told

-- one of them, as faults are wanted or not
abbrev pub IsScriptAnsweredAs : Bool → Standing → Settings → Script → List ℕ → Type 0
IsScriptAnsweredAs false base settings script out = IsScriptAnswered base settings script out
IsScriptAnsweredAs true base settings script out = IsScriptAnsweredWithFaults base settings script out

-- the bytes are event lines, and the text is what the script is answered that they make
pub record IsEventsAnswered (faults : Bool) (base : Standing) (settings : Settings) (bytes out : List ℕ) : Type 0 where
  pub script : Script
  pub spells : IsScriptOf (lines_of bytes) script
  pub answered : IsScriptAnsweredAs faults base settings script out

-- the text is what bytes are answered over a store with the opening buckets, and nothing else: as those of one connection at a
-- moment, or as event lines
abbrev pub IsAnswered : Settings → ReplayMode → List ℕ → List ℕ → Type 0
IsAnswered settings (AtMoment moment) bytes out = Replays settings moment bytes out
IsAnswered settings (Events faults) bytes out = IsEventsAnswered faults (opened (opening settings.buckets)) settings bytes out

-- the same over a store that stood so
abbrev pub IsAnsweredFrom : Standing → Settings → ReplayMode → List ℕ → List ℕ → Type 0
IsAnsweredFrom base settings (AtMoment moment) bytes out = ReplaysFrom base settings moment bytes out
IsAnsweredFrom base settings (Events faults) bytes out = IsEventsAnswered faults base settings bytes out

-- a store that a keeper opened in a folder: the first buckets are there, and it is a sound base for entries from its next one on, so
-- that all that is known of histories from one holds of its own
abbrev pub IsFound : Settings → Standing → Type 0
IsFound settings base = HasBuckets settings.buckets base.state × IsSoundBase base.state base.number

-- the text is what bytes are answered, in memory or over what was found in a folder
abbrev pub IsAnsweredOver : Option (Bor (List ℕ)) → Settings → ReplayMode → List ℕ → List ℕ → Type 0
IsAnsweredOver None settings mode bytes out = IsAnswered settings mode bytes out
IsAnsweredOver (Some path) settings mode bytes out =
    (base : Standing) × IsFound settings base × IsAnsweredFrom base settings mode bytes out

-- the input is event lines
abbrev pub reads_events : ReplayMode → Bool
reads_events (AtMoment moment) = false
reads_events (Events faults) = true

-- the text is what all the input is answered, read as the options say and under the settings that they and the keys file
-- make
pub record IsReplayed (known : List ℕ → Option (List ℕ)) (old new : Traffic) (options : ReplayOptions) (out : List ℕ) : Type 0 where
  pub mode : ReplayMode
  pub setup : Setup
  pub settings : Settings
  pub chosen : replay_mode options ≡ Some mode
  pub asked : IsSetupOf options.common setup
  pub configured : IsConfigured (known setup.keys.now) setup settings
  pub answered : GivesAll (λ bytes. IsAnsweredOver options.folder settings mode bytes out) old new

-- the options say how the input is read, and there are no settings for this reason
abbrev pub HasModeAndConfigFault : (List ℕ → Option (List ℕ)) → ReplayOptions → Fault → Type 0
HasModeAndConfigFault known options fault =
    (is_some (replay_mode options) ≡ true) × HasConfigFault known options.common fault

-- the device gave bytes to their end, and the first event line of them that is bad has this number
abbrev pub GivesBadLine : Traffic → Traffic → ℕ → Type 0
GivesBadLine old new number = GivesAll (λ bytes. IsFirstBadLine AreEventLines (lines_of bytes) number) old new

-- a folder may fail so when what changed there is to be committed, after the input
abbrev pub is_late : StorageFault → Bool
is_late storage.NoRoom = true
is_late storage.Failed = true
is_late _ = false

-- nothing was read of the device yet; or it gave all, and the folder failed as it does late
abbrev pub IsEarlyOrLate : Traffic → Traffic → StorageFault → Type 0
IsEarlyOrLate old new why = (new ≡ old) ⊎ ((is_late why ≡ true) × GivesAll (λ bytes. ⊤) old new)

-- why a replay has no such text, and what the device gave by then; each fault only where none that comes before it is
-- there. Memory runs out only where the options are of their forms.
abbrev pub IsReplayFault : (List ℕ → Option (List ℕ)) → Traffic → Traffic → ReplayOptions → Fault → Type 0
IsReplayFault known old new options BadSetting =
    (new ≡ old) × ((are_replay_options options ≡ false) ⊎ HasModeAndConfigFault known options BadSetting)
IsReplayFault known old new options (CannotRead path) = (new ≡ old) × HasModeAndConfigFault known options (CannotRead path)
IsReplayFault known old new options (CannotWrite path) = ⊥
IsReplayFault known old new options (BadKeysLine number) = (new ≡ old) × HasModeAndConfigFault known options (BadKeysLine number)
IsReplayFault known old new options (BadEventLine number) =
    GivesBadLine old new number × (option_map reads_events (replay_mode options) ≡ Some true) × HasSettings known options.common
IsReplayFault known old new options (CannotListen address) = ⊥
IsReplayFault known old new options (CannotUse path why) =
    IsEarlyOrLate old new why × (option_map (λ text. text.now) options.folder ≡ Some path.now) × (is_some (replay_mode options) ≡ true)
    × HasSettings known options.common
IsReplayFault known old new options InputFailed =
    FailsToGive old new × (is_some (replay_mode options) ≡ true) × HasSettings known options.common
IsReplayFault known old new options OutputFailed = ⊥
IsReplayFault known old new options OutOfMemory = GivesSome old new × (are_replay_options options ≡ true)

-- the fault is found before the input is read
abbrev pub is_before_input : Fault → Bool
is_before_input (CannotRead path) = true
is_before_input (BadKeysLine number) = true
is_before_input BadSetting = true
is_before_input (CannotUse path why) = not (is_late why)
is_before_input _ = false

-- a task that reads no input
abbrev pub is_signing : Task → Bool
is_signing (Replay options) = false
is_signing (Sign options) = true

-- the text is the one that a task writes, which has read what the device gave
abbrev pub IsTaskText : (List ℕ → Option (List ℕ)) → Traffic → Traffic → Task → List ℕ → Type 0
IsTaskText known old new (Replay options) text = IsReplayed known old new options text
IsTaskText known old new (Sign options) text = (new ≡ old) × IsTextOf known options text

-- why a task has none
abbrev pub IsTextFault : (List ℕ → Option (List ℕ)) → Traffic → Traffic → Task → Fault → Type 0
IsTextFault known old new (Replay options) fault = IsReplayFault known old new options fault
IsTextFault known old new (Sign options) fault = (new ≡ old) × IsSignFault known options fault

-- a task is done: it read what it had to, and then the device took its text
pub record IsTaskDone (known : List ℕ → Option (List ℕ)) (old new : Traffic) (task : Task) : Type 0 where
  pub text : List ℕ
  pub between : Traffic
  pub is : IsTaskText known old between task text
  pub written : Takes between new text

-- it read what it had to, and then a write failed, with a beginning of its text taken
pub record IsCutShort (known : List ℕ → Option (List ℕ)) (old new : Traffic) (task : Task) : Type 0 where
  pub text : List ℕ
  pub between : Traffic
  pub is : IsTaskText known old between task text
  pub written : TakesBeginning between new text

-- why a task fails: it has no text, and then nothing is written, or a write failed
abbrev pub IsTaskFault : (List ℕ → Option (List ℕ)) → Traffic → Traffic → Task → Fault → Type 0
IsTaskFault known old new task fault =
    IsTextFault known old new task fault ⊎ ((fault ≡ OutputFailed) × IsCutShort known old new task)

-- a run did what its words ask for
abbrev pub IsDone : List (List ℕ) → (List ℕ → Option (List ℕ)) → Traffic → Traffic → Type 0
IsDone words known old new = (task : Task) × IsReadFrom words task × IsTaskDone known old new task

-- why a run fails: memory ran out before anything was done, or the task that its words ask for fails
abbrev pub IsRunFault : List (List ℕ) → (List ℕ → Option (List ℕ)) → Traffic → Traffic → Fault → Type 0
IsRunFault words known old new fault =
    ((fault ≡ OutOfMemory) × (new ≡ old))
    ⊎ ((task : Task) × IsReadFrom words task × IsTaskFault known old new task fault)

-- a run failed for some reason, and its line was told: the whole of it, or a beginning until a write failed; the device is
-- untouched where the reason comes before the input
pub record HasFailed (IsReason : Fault → Type 0) (errors errors_after : Traffic) (untouched : Type 0) : Type 0 where
  pub fault : Fault
  pub reason : IsReason fault
  pub told : IsTold errors errors_after (line_of fault)
  pub input : IsTrue (is_before_input fault) → untouched
