-- What the options on the settings say, and the settings that they and the keys file make.
use Rattle.std.specs.Prelude.{◌≡◌, ⊤, ℕ, Bool, true, false, not, IsTrue, ◌&&◌, nat_le, if◌then◌else◌, List, codes, Option, Some, None, is_some, IfSome, option_map, option_to_list}
use Rattle.std.specs.Str.{bytes_eq}
use Rattle.s3_terms.specs.declared.dialect.Dialect.{Dialect}
use Rattle.s3_terms.specs.declared.dialect.Dialect.TheVariants.{Json, S3}
use Rattle.s3_text.specs.Digits.{decimal_number}
use Rattle.s3_text.specs.Lines.{lines_of, IsFirstBadLine}
use Rattle.s3_names.specs.Names.{is_bucket_name}
use Rattle.s3_calendar.specs.Moment.{last_moment}
use Rattle.s3_config.specs.Settings.{Settings, Credentials, are_settings}
use Rattle.s3_settings.specs.declared.fault.Fault.{Fault}
use Rattle.s3_settings.specs.declared.fault.Fault.TheVariants.{CannotRead, BadKeysLine, BadSetting, OutOfMemory}
use Rattle.s3_settings.specs.declared.options.Options.{Options}
use Rattle.s3_settings.specs.declared.options.ReplayOptions.{ReplayOptions}
use Rattle.s3_settings.specs.declared.records_kind.RecordsKind.{RecordsKind}
use Rattle.s3_settings.specs.declared.records_kind.RecordsKind.TheVariants.{Map, Sql}
use Rattle.s3_settings.specs.declared.settings.Setup.{Setup}
use Rattle.s3_settings.specs.declared.mode.ReplayMode.{ReplayMode}
use Rattle.s3_settings.specs.declared.mode.ReplayMode.TheVariants.{AtMoment, Events}
use Rattle.s3_settings.specs.Keys.{SayKeys, AreKeyLines}

-- the number that 1 to 12 decimal digits spell
abbrev pub option_number : List ℕ → Option ℕ
option_number text = decimal_number 12 text

-- a number of seconds up to the end of the year 9999
abbrev pub moment_of : Option ℕ → Option ℕ
moment_of None = None
moment_of (Some seconds) = if nat_le seconds last_moment then Some seconds else None

-- the moment that an option says; without the option there is none
abbrev pub option_moment : Option (List ℕ) → Option ℕ
option_moment None = None
option_moment (Some text) = moment_of (option_number text)

-- the dialect that a text names, if it is the name of one
abbrev pub dialect_named : List ℕ → Option Dialect
dialect_named text =
    if bytes_eq text (codes "json") then Some Json
    else if bytes_eq text (codes "s3") then Some S3
    else None

-- the kind of records that a text names, if it is the name of one
abbrev pub records_named : List ℕ → Option RecordsKind
records_named text =
    if bytes_eq text (codes "map") then Some Map
    else if bytes_eq text (codes "sql") then Some Sql
    else None

-- the kind that an option names; without the option it is maps
abbrev pub records_asked : Option (List ℕ) → Option RecordsKind
records_asked None = Some Map
records_asked (Some text) = records_named text

-- no bucket, or one whose name is a bucket's
abbrev pub is_bucket_option : Option (List ℕ) → Bool
is_bucket_option None = true
is_bucket_option (Some name) = is_bucket_name name

-- each option on the settings is of its form
unfoldable pub are_options : Options → Bool
are_options o =
    is_some o.keys && is_some (option_number o.min_part.now) && is_some (option_number o.body_limit.now)
    && is_bucket_option (option_map (λ name. name.now) o.bucket) && is_some (dialect_named o.dialect.now)
    && is_some (records_asked (option_map (λ text. text.now) o.records))

-- the options are of their forms, and a setup has what they say
pub record IsSetupOf (o : Options) (s : Setup) : Type 0 where
  pub valid : are_options o ≡ true
  pub keys : option_map (λ path. path.now) o.keys ≡ Some s.keys.now
  pub region : s.region.now ≡ o.region.now
  pub min_part : option_number o.min_part.now ≡ Some s.min_part
  pub body_limit : option_number o.body_limit.now ≡ Some s.body_limit
  pub bucket : option_map (λ name. name.now) o.bucket ≡ s.bucket
  pub dialect : dialect_named o.dialect.now ≡ Some s.dialect
  pub records : records_asked (option_map (λ text. text.now) o.records) ≡ Some s.records

-- an option doesn't name maps
abbrev pub isnt_map : Option (List ℕ) → Bool
isnt_map None = true
isnt_map (Some records) = not (bytes_eq records (codes "map"))

-- these options may stand together: a folder doesn't keep maps
abbrev pub are_together : Option (List ℕ) → Option (List ℕ) → Bool
are_together None records = true
are_together (Some folder) records = isnt_map records

-- what a replay's own options ask for: one moment for everything, or events, with faults or without; both or neither asks for
-- nothing, and so do faults without events
abbrev pub mode_of : Option (List ℕ) → Bool → Bool → Option ReplayMode
mode_of (Some text) false false = option_map AtMoment (option_moment (Some text))
mode_of None true faults = Some (Events faults)
mode_of moment events faults = None

-- the same of the options; they ask for nothing where a folder is named beside maps
abbrev pub replay_mode : ReplayOptions → Option ReplayMode
replay_mode o =
    if are_together (option_map (λ text. text.now) o.folder) (option_map (λ text. text.now) o.common.records)
    then mode_of (option_map (λ text. text.now) o.moment) o.events o.faults
    else None

-- the settings that a setup and some keys make
abbrev pub settings_of : Setup → List Credentials → Settings
settings_of s keys = record {
  region = s.region.now;
  keys = keys;
  min_part = s.min_part;
  body_limit = s.body_limit;
  buckets = option_to_list s.bucket;
  dialect = s.dialect;
}

-- the keys file says these keys, where it is known
abbrev pub HasKeys : Option (List ℕ) → List Credentials → Type 0
HasKeys file keys = IfSome file (λ text. SayKeys (lines_of text) keys)

-- the settings are those of a setup and of the keys in its keys file
pub record IsConfigured (file : Option (List ℕ)) (setup : Setup) (settings : Settings) : Type 0 where
  pub keys : HasKeys file settings.keys
  pub parts : settings ≡ settings_of setup settings.keys
  pub valid : IsTrue (are_settings settings)

-- why there are no settings
abbrev pub IsConfigFault : Option (List ℕ) → Setup → Fault → Type 0
IsConfigFault file setup (CannotRead path) = (path.now ≡ setup.keys.now) × (file ≡ None)
IsConfigFault file setup (BadKeysLine number) = IfSome file (λ text. IsFirstBadLine AreKeyLines (lines_of text) number)
IsConfigFault file setup BadSetting =
    (keys : List Credentials) × HasKeys file keys × (are_settings (settings_of setup keys) ≡ false)
IsConfigFault file setup OutOfMemory = ⊤
IsConfigFault file setup _ = ⊥

-- these options have settings
abbrev pub HasSettings : (List ℕ → Option (List ℕ)) → Options → Type 0
HasSettings known options =
    (setup : Setup) × (settings : Settings) × IsSetupOf options setup
    × IsConfigured (known setup.keys.now) setup settings

-- they have none for this reason
abbrev pub HasConfigFault : (List ℕ → Option (List ℕ)) → Options → Fault → Type 0
HasConfigFault known options fault =
    (setup : Setup) × IsSetupOf options setup × IsConfigFault (known setup.keys.now) setup fault
