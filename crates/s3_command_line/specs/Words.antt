-- The command line of the program, as `clap` reads it: its `fault_of` says what is wrong with some
-- words, and its `subcommand_of` what they give.
use Rattle.std.specs.Prelude.{◌≡◌, ◌⊎◌, Bool, true, false, List, [], ◌∷◌, map, codes, Option, Some, None, option_map, unwrap_or, bytes_eq}
use Rattle.clap.specs.Words.{App, Row, Rule, Text, new_app, new_rule, with_rule, with_subcommand, subcommand_of, first_of, all_of, fault_of}
use Rattle.clap.specs.declared.builder.action.ArgAction.TheVariants.{Append, SetTrue}
use Rattle.s3_settings.specs.declared.options.Options.{Options}
use Rattle.s3_settings.specs.declared.options.ReplayOptions.{ReplayOptions}
use Rattle.s3_settings.specs.declared.options.ServeOptions.{ServeOptions}
use Rattle.s3_settings.specs.declared.options.SignOptions.{SignOptions}
use Rattle.s3_command_line.specs.declared.task.Asked.{Asked}
use Rattle.s3_command_line.specs.declared.task.Asked.TheVariants.{Work, Server}
use Rattle.s3_command_line.specs.declared.task.Task.{Task}
use Rattle.s3_command_line.specs.declared.task.Task.TheVariants.{Replay, Sign}

-- an option `--name VALUE`
abbrev pub option_rule : Text → Rule
option_rule name = record (new_rule name) { long = Some name; value_names = 1 }

-- an option that has to be there
abbrev pub required_rule : Text → Rule
required_rule name = record (option_rule name) { required = true }

-- an option that has a value also where it is not there
abbrev pub default_rule : Text → Text → Rule
default_rule name value = record (option_rule name) { defaults = value ∷ [] }

-- an option `--name` without a value
abbrev pub flag_rule : Text → Rule
flag_rule name = record (new_rule name) { long = Some name; action = Some SetTrue }

-- words without a name, as many as there are
abbrev pub words_rule : Text → Rule
words_rule name = record (new_rule name) { action = Some Append; value_names = 1 }

-- the values of options that are not there
abbrev pub default_region : Text
default_region = codes "us-east-1"

abbrev pub default_min_part : Text
default_min_part = codes "5242880"

abbrev pub default_body_limit : Text
default_body_limit = codes "67108864"

abbrev pub default_dialect : Text
default_dialect = codes "json"

abbrev pub default_workers : Text
default_workers = codes "8"

abbrev pub default_max_connections : Text
default_max_connections = codes "1024"

-- the options of each subcommand on the settings
abbrev pub with_settings : App → App
with_settings a =
    with_rule (with_rule (with_rule (with_rule (with_rule a
    (required_rule (codes "keys")))
    (default_rule (codes "region") default_region))
    (default_rule (codes "min-part") default_min_part))
    (default_rule (codes "body-limit") default_body_limit))
    (option_rule (codes "bucket"))

-- the option of those that write documents
abbrev pub with_dialect : App → App
with_dialect a = with_rule a (default_rule (codes "dialect") default_dialect)

-- the option of those that keep records
abbrev pub with_records : App → App
with_records a = with_rule a (option_rule (codes "records"))

-- `s3d replay`
abbrev pub replay_app : App
replay_app =
    with_rule (with_rule (with_rule (with_rule (with_records (with_dialect (with_settings (new_app (codes "replay")))))
    (option_rule (codes "moment")))
    (flag_rule (codes "events")))
    (flag_rule (codes "faults")))
    (option_rule (codes "data"))

-- `s3d sign`
abbrev pub sign_app : App
sign_app =
    with_rule (with_rule (with_rule (with_rule (with_rule (with_rule (with_rule (with_rule (with_rule (with_rule (with_settings (new_app (codes "sign")))
    (required_rule (codes "id")))
    (required_rule (codes "moment")))
    (required_rule (codes "method")))
    (required_rule (codes "target")))
    (required_rule (codes "host")))
    (option_rule (codes "body")))
    (option_rule (codes "chunk")))
    (option_rule (codes "presign")))
    (flag_rule (codes "url")))
    (words_rule (codes "header"))

-- `s3d serve`
abbrev pub serve_app : App
serve_app =
    with_rule (with_rule (with_rule (with_rule (with_rule (with_rule (with_rule (with_records (with_dialect (with_settings (new_app (codes "serve")))))
    (required_rule (codes "listen")))
    (default_rule (codes "workers") default_workers))
    (default_rule (codes "max-connections") default_max_connections))
    (option_rule (codes "connections")))
    (option_rule (codes "rounds")))
    (option_rule (codes "log")))
    (option_rule (codes "data"))

-- `s3d` before it has a subcommand
abbrev pub bare_app : App
bare_app =
    let top = (new_app (codes "s3d")).top in
    record (new_app (codes "s3d")) {
      top = record top { has_version = true; subcommand_required = true; arg_required_else_help = true };
    }

-- `s3d`
abbrev pub s3d_app : App
s3d_app = with_subcommand (with_subcommand (with_subcommand bare_app replay_app.top) sign_app.top) serve_app.top

-- the words are right and ask for no help, and they name this subcommand
abbrev pub AreWordsOf : Text → List Text → Type 0
AreWordsOf name words =
    (fault_of s3d_app words ≡ []) × (option_map (λ p. p.0) (subcommand_of s3d_app words) ≡ Some name)

-- the words of a replay
abbrev pub AreReplayWords : List Text → Type 0
AreReplayWords words = AreWordsOf (codes "replay") words

-- the words of a signing
abbrev pub AreSignWords : List Text → Type 0
AreSignWords words = AreWordsOf (codes "sign") words

-- the words of a server
abbrev pub AreServeWords : List Text → Type 0
AreServeWords words = AreWordsOf (codes "serve") words

-- the words of one of them
abbrev pub AreRightWords : List Text → Type 0
AreRightWords words = AreReplayWords words ⊎ (AreSignWords words ⊎ AreServeWords words)

-- the dialect that some matches say
abbrev pub dialect_in : List Row → Text
dialect_in rows = unwrap_or (first_of (codes "dialect") rows) default_dialect

-- the options are those of some matches, with this dialect and this kind of records, if one is named
pub record HasOptions (rows : List Row) (dialect : Text) (records : Option Text) (o : Options) : Type 0 where
  pub keys : option_map (λ text. text.now) o.keys ≡ first_of (codes "keys") rows
  pub region : o.region.now ≡ unwrap_or (first_of (codes "region") rows) default_region
  pub min_part : o.min_part.now ≡ unwrap_or (first_of (codes "min-part") rows) default_min_part
  pub body_limit : o.body_limit.now ≡ unwrap_or (first_of (codes "body-limit") rows) default_body_limit
  pub bucket : option_map (λ text. text.now) o.bucket ≡ first_of (codes "bucket") rows
  pub spelled : o.dialect.now ≡ dialect
  pub kept : option_map (λ text. text.now) o.records ≡ records

-- the value that a flag has is that of one that is there
abbrev pub is_set : Option Text → Bool
is_set None = false
is_set (Some text) = bytes_eq text (codes "true")

-- the options of a replay are those of some matches
pub record HasReplayOptions (rows : List Row) (o : ReplayOptions) : Type 0 where
  pub common : HasOptions rows (dialect_in rows) (first_of (codes "records") rows) o.common
  pub moment : option_map (λ text. text.now) o.moment ≡ first_of (codes "moment") rows
  pub events : o.events ≡ is_set (first_of (codes "events") rows)
  pub faults : o.faults ≡ is_set (first_of (codes "faults") rows)
  pub folder : option_map (λ text. text.now) o.folder ≡ first_of (codes "data") rows

-- the options of a server are those of some matches
pub record HasServeOptions (rows : List Row) (o : ServeOptions) : Type 0 where
  pub common : HasOptions rows (dialect_in rows) (first_of (codes "records") rows) o.common
  pub listen : option_map (λ text. text.now) o.listen ≡ first_of (codes "listen") rows
  pub workers : o.workers.now ≡ unwrap_or (first_of (codes "workers") rows) default_workers
  pub max_connections : o.max_connections.now ≡ unwrap_or (first_of (codes "max-connections") rows) default_max_connections
  pub connections : option_map (λ text. text.now) o.connections ≡ first_of (codes "connections") rows
  pub rounds : option_map (λ text. text.now) o.rounds ≡ first_of (codes "rounds") rows
  pub log : option_map (λ text. text.now) o.log ≡ first_of (codes "log") rows
  pub folder : option_map (λ text. text.now) o.folder ≡ first_of (codes "data") rows

-- the options of a signing are those of some matches; it has no documents and no records, and its dialect is the one of
-- no option
pub record HasSignOptions (rows : List Row) (o : SignOptions) : Type 0 where
  pub common : HasOptions rows default_dialect None o.common
  pub moment : option_map (λ text. text.now) o.moment ≡ first_of (codes "moment") rows
  pub id : option_map (λ text. text.now) o.id ≡ first_of (codes "id") rows
  pub method : option_map (λ text. text.now) o.method ≡ first_of (codes "method") rows
  pub target : option_map (λ text. text.now) o.target ≡ first_of (codes "target") rows
  pub host : option_map (λ text. text.now) o.host ≡ first_of (codes "host") rows
  pub body : option_map (λ text. text.now) o.body ≡ first_of (codes "body") rows
  pub chunk : option_map (λ text. text.now) o.chunk ≡ first_of (codes "chunk") rows
  pub presign : option_map (λ text. text.now) o.presign ≡ first_of (codes "presign") rows
  pub url : o.url ≡ is_set (first_of (codes "url") rows)
  pub headers : map (λ text. text.now) o.headers.items ≡ unwrap_or (all_of (codes "header") rows) []

-- the words are those of a subcommand, and this holds of the matches that they give it
pub record Give (words : List Text) (name : Text) (Holds : List Row → Type 0) : Type 0 where
  pub rows : List Row
  pub right : AreWordsOf name words
  pub given : option_map (λ p. p.1) (subcommand_of s3d_app words) ≡ Some rows
  pub options : Holds rows

-- the task is the one that the words ask for
abbrev pub IsReadFrom : List Text → Task → Type 0
IsReadFrom words (Replay options) = Give words (codes "replay") (λ rows. HasReplayOptions rows options)
IsReadFrom words (Sign options) = Give words (codes "sign") (λ rows. HasSignOptions rows options)

-- that is what the words ask for
abbrev pub IsAskedBy : List Text → Asked → Type 0
IsAskedBy words (Work task) = IsReadFrom words task
IsAskedBy words (Server options) = Give words (codes "serve") (λ rows. HasServeOptions rows options)
