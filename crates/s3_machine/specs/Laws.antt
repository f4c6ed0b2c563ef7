-- What holds of every step.
use Rattle.std.specs.Prelude.{◌≡◌, ◌↔◌, ◌⊎◌, ℕ, ◌+◌, true, false, IsTrue, List, [], Option, Some, None, option_map}
use Rattle.std.specs.List.{Contains}
use Rattle.s3_terms.specs.declared.code.Code.TheVariants.{NoSuchUpload}
use Rattle.s3_names.specs.declared.ids.VersionId.{VersionId}
use Rattle.s3_conditions.specs.declared.conditions.Conditions.{Conditions}
use Rattle.s3_conditions.specs.Conditions.{plain}
use Rattle.s3_versions.specs.declared.picking.Facts.{Facts}
use Rattle.s3_versions.specs.Metadata.{Entry}
use Rattle.s3_records.specs.Catalogue.{has_bucket}
use Rattle.s3_records.specs.Places.{AreBelow}
use Rattle.s3_records.specs.Rows.{key_rows}
use Rattle.s3_prefixes.specs.declared.asked.ListVersion.TheVariants.{Second}
use Rattle.s3_prefixes.specs.declared.asked.ObjectsAsked.{ObjectsAsked}
use Rattle.s3_prefixes.specs.Items.{Object}
use Rattle.s3_listings.specs.Objects.{objects_asked}
use Rattle.s3_machine.specs.declared.command.Command.{Command}
use Rattle.s3_machine.specs.declared.command.Command.TheVariants as commands
use Rattle.s3_machine.specs.declared.command.KeyCommand.TheVariants as key_commands
use Rattle.s3_machine.specs.declared.command.Outcome.TheVariants as outcomes
use Rattle.s3_machine.specs.declared.command.UploadCommand.{UploadCommand}
use Rattle.s3_machine.specs.declared.rules.Rules.{Rules}
use Rattle.s3_machine.specs.Effects.{Address, UploadPlace, open_at, is_refused, only_reads, given_whole, facts_found, by_conditions}
use Rattle.s3_machine.specs.Step.{State, step}

-- a refusal leaves the state as it was, and so does a command that only reads
abbrev pub QuietStepsChangeNothing : Type 0
QuietStepsChangeNothing =
    (rules : Rules) (s : State) (n t : ℕ) (command : Command)
    → ((is_refused (step rules s n t command).1 ≡ true) ⊎ (only_reads command ≡ true)) → (step rules s n t command).0 ≡ s

-- where the number of an entry is above those of all versions, the next one is above them after its step
abbrev pub StepsStayBelow : Type 0
StepsStayBelow = (rules : Rules) (s : State) (n t : ℕ) (command : Command) → AreBelow n s → AreBelow (n + 1) (step rules s n t command).0

-- a read of a version, or of the current one, by conditions, with what its reply is to say
abbrev pub reading : List ℕ → List ℕ → Option VersionId → Conditions → List Entry → Command
reading name key version conditions overrides =
    commands.Key name key (key_commands.Read (record { version = version; conditions = conditions; overrides = overrides }))

-- A read by conditions is the plain read, judged by them: it is refused where that is refused and as that is, else with their
-- refusal, or is shown that the version is as it knows it, or that no byte of it is in the range, or a part of it, or all.
abbrev pub ConditionsJudgeReads : Type 0
ConditionsJudgeReads =
    (rules : Rules) (s : State) (n t : ℕ) (name key : List ℕ) (version : Option VersionId) (conditions : Conditions)
    (overrides : List Entry)
    → (step rules s n t (reading name key version conditions overrides)).1
    ≡ by_conditions conditions (step rules s n t (reading name key version plain overrides)).1

-- a list of all objects of a bucket
abbrev pub all_keys : ObjectsAsked
all_keys =
    record {
      version = Second;
      prefix = [];
      delimiter = [];
      start_after = None;
      token = None;
      max_keys = 1000;
      is_url_encoded = false;
      tells_owner = false;
    }

-- the address is listed with these facts, among all objects of its bucket
abbrev pub IsListed : State → Address → Facts → Type 0
IsListed s address facts = Contains (objects_asked all_keys (key_rows s address.bucket)) (Object address.key facts)

-- An address is listed with a moment, a tag and a size exactly where a plain read of its key is given a version with these.
abbrev pub ListsShowWhatReadsGive : Type 0
ListsShowWhatReadsGive =
    (rules : Rules) (s : State) (n t : ℕ) (address : Address) (facts : Facts)
    → IsListed s address facts
    ↔ (option_map facts_found (given_whole (step rules s n t (reading address.bucket address.key None plain [])).1) ≡ Some facts)

-- a command on an upload
abbrev pub asking : UploadPlace → UploadCommand → Command
asking upload asked = commands.Upload upload.address.bucket upload.address.key upload.id asked

-- Whatever is asked of an upload that isn't open is refused with NoSuchUpload.
abbrev pub ClosedUploadsAreRefused : Type 0
ClosedUploadsAreRefused =
    (rules : Rules) (s : State) (n t : ℕ) (upload : UploadPlace) (asked : UploadCommand)
    → IsTrue (has_bucket s upload.address.bucket)
    → open_at s upload ≡ None
    → (step rules s n t (asking upload asked)).1 ≡ outcomes.Refused NoSuchUpload false
