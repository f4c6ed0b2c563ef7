-- What is known of all plans: what they store beside a body may stand in the lines of a reply, what needs no body has none,
-- and what a list tells to go on by is read back.
use Rattle.std.specs.Prelude.{◌≡◌, ℕ, Bool, true, ◌&&◌, List, Option, Some, None, Ok, IsUtf8}
use Rattle.std.specs.List.{list_all}
use Rattle.hex.specs.Hex.{encode_lower}
use Rattle.s3_config.specs.Settings.{Settings}
use Rattle.s3_http_heads.specs.Head.{HeadParts, Says, is_unbroken}
use Rattle.s3_versions.specs.Metadata.{Entry}
use Rattle.s3_requests.specs.declared.routing.Plan.{Plan}
use Rattle.s3_requests.specs.declared.routing.Plan.TheVariants as plans
use Rattle.s3_machine.specs.declared.command.Command.{Command}
use Rattle.s3_machine.specs.declared.command.Command.TheVariants as commands
use Rattle.s3_machine.specs.declared.command.Description.{Description}
use Rattle.s3_machine.specs.declared.command.KeyCommand.{KeyCommand}
use Rattle.s3_machine.specs.declared.command.KeyCommand.TheVariants as key_commands
use Rattle.s3_machine.specs.Effects.{brings, sent}
use Rattle.s3_integrity.specs.declared.checksum.Checksum.{Checksum}
use Rattle.s3_requests.specs.KeptSum.{with_sum}
use Rattle.s3_requests.specs.ListArguments.{token_named}
use Rattle.s3_requests.specs.Routing.{route_of}

-- no carriage return is in the name and the value
abbrev pub is_unbroken_entry : Entry → Bool
is_unbroken_entry entry = is_unbroken entry.name && is_unbroken entry.value

-- nor in a media type and in metadata
abbrev pub AreUnbroken : List ℕ → List Entry → Type 0
AreUnbroken content_type metadata = (is_unbroken content_type ≡ true) × (list_all is_unbroken_entry metadata ≡ true)

-- nor in what is said of a copy, if something is
abbrev pub IsUnbrokenSaid : Option Description → Type 0
IsUnbrokenSaid None = Unit {0}
IsUnbrokenSaid (Some said) = AreUnbroken said.content_type said.metadata

-- nor in what is to be stored under a key beside a body, now or when an upload is complete, nor in what a reply is to say
abbrev pub IsUnbrokenAsk : KeyCommand → Type 0
IsUnbrokenAsk (key_commands.Read asked) = list_all is_unbroken_entry asked.overrides ≡ true
IsUnbrokenAsk (key_commands.Copy copy) = IsUnbrokenSaid copy.description
IsUnbrokenAsk (key_commands.Put put) = AreUnbroken put.content_type put.metadata
IsUnbrokenAsk (key_commands.Begin begin) = AreUnbroken begin.content_type begin.metadata
IsUnbrokenAsk other = Unit {0}

abbrev pub IsUnbrokenCommand : Command → Type 0
IsUnbrokenCommand (commands.Key bucket key asked) = IsUnbrokenAsk asked
IsUnbrokenCommand other = Unit {0}

-- whether the body is there or is waited for
abbrev pub IsUnbrokenPlan : Plan → Type 0
IsUnbrokenPlan (plans.Ready command) = IsUnbrokenCommand command
IsUnbrokenPlan (plans.Put bucket key said condition) = AreUnbroken said.content_type said.metadata
IsUnbrokenPlan other = Unit {0}

-- what a head asks for has none there
abbrev pub PlansAreUnbroken : Type 0
PlansAreUnbroken =
    (settings : Settings) (text : List ℕ) (head : HeadParts) (plan : Plan) → Says text head → route_of settings head ≡ Ok plan → IsUnbrokenPlan plan

-- nor has metadata with a checksum, where it had none without
abbrev pub SumsAreUnbroken : Type 0
SumsAreUnbroken =
    (sum : Option Checksum) (said kept : List Entry) → with_sum sum said ≡ Ok kept → list_all is_unbroken_entry said ≡ true
    → list_all is_unbroken_entry kept ≡ true

-- what is ready without a body brings none, to a key or to an upload: so what is stored of a message is what came as its body
abbrev pub ReadyPlansBringNothing : Type 0
ReadyPlansBringNothing =
    (settings : Settings) (head : HeadParts) (command : Command) → route_of settings head ≡ Ok (plans.Ready command)
    → (brings command ≡ None) × (sent command ≡ None)

-- the digits of a text, as a list tells them, name the text again
abbrev pub TokensAreReadBack : Type 0
TokensAreReadBack = (text : List ℕ) → IsUtf8 text → token_named (Some (encode_lower text)) ≡ Ok (Some text)
