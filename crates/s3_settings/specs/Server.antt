-- What the options of a server ask for, and the settings that it is started with.
use Rattle.std.specs.Prelude.{◌≡◌, ◌⊎◌, ℕ, Bool, true, false, ◌&&◌, nat_le, if◌then◌else◌, List, Option, Some, None, is_some, option_map}
use Rattle.s3_config.specs.Settings.{Settings}
use Rattle.s3_settings.specs.declared.options.ServeOptions.{ServeOptions}
use Rattle.s3_settings.specs.declared.fault.Fault.{Fault}
use Rattle.s3_settings.specs.declared.fault.Fault.TheVariants.{CannotRead, BadKeysLine, BadSetting, OutOfMemory}
use Rattle.s3_settings.specs.declared.server.ServeMode.{ServeMode}
use Rattle.s3_settings.specs.declared.settings.Setup.{Setup}
use Rattle.s3_settings.specs.Settings.{option_number, are_options, are_together, IsSetupOf, IsConfigured, HasConfigFault}

-- the most threads that serve connections
abbrev pub greatest_workers : ℕ
greatest_workers = 64

-- the most connections that are held at a time
abbrev pub greatest_held : ℕ
greatest_held = 65536

-- the number, if it is from 1 to a greatest one
abbrev pub up_to : ℕ → Option ℕ → Option ℕ
up_to greatest None = None
up_to greatest (Some count) = if nat_le 1 count && nat_le count greatest then Some count else None

-- the number, if it is above 0
abbrev pub positive : Option ℕ → Option ℕ
positive None = None
positive (Some count) = if nat_le 1 count then Some count else None

-- after how many connections a server ends, if the option says a number of them; without the option it goes on
abbrev pub connections_asked : Option (List ℕ) → Option (Option ℕ)
connections_asked None = Some None
connections_asked (Some text) = option_map Some (positive (option_number text))

-- how many times a server serves so many connections, if the option says a number of times; without the option once
abbrev pub rounds_asked : Option (List ℕ) → Option ℕ
rounds_asked None = Some 1
rounds_asked (Some text) = positive (option_number text)

-- these options may stand together: rounds that are asked for end, after a number of connections each
abbrev pub rounds_end : Option (List ℕ) → Option (List ℕ) → Bool
rounds_end None connections = true
rounds_end (Some rounds) connections = is_some connections

-- the address is there, and the numbers of threads, of connections at a time, of connections in all and of rounds are
-- such, and no rounds are asked for without a number of connections, and no folder is named beside maps
unfoldable pub are_serve_options : ServeOptions → Bool
are_serve_options o =
    is_some o.listen && is_some (up_to greatest_workers (option_number o.workers.now))
    && is_some (up_to greatest_held (option_number o.max_connections.now))
    && is_some (connections_asked (option_map (λ text. text.now) o.connections))
    && is_some (rounds_asked (option_map (λ text. text.now) o.rounds))
    && rounds_end (option_map (λ text. text.now) o.rounds) (option_map (λ text. text.now) o.connections)
    && are_together (option_map (λ text. text.now) o.folder) (option_map (λ text. text.now) o.common.records)

-- the options are of their forms, and a server runs as they say
pub record IsServeModeOf (o : ServeOptions) (mode : ServeMode) : Type 0 where
  pub valid : are_serve_options o ≡ true
  pub address : option_map (λ text. text.now) o.listen ≡ Some mode.address.now
  pub workers : up_to greatest_workers (option_number o.workers.now) ≡ Some mode.workers
  pub most_held : up_to greatest_held (option_number o.max_connections.now) ≡ Some mode.most_held
  pub connections : connections_asked (option_map (λ text. text.now) o.connections) ≡ Some mode.connections
  pub rounds : rounds_asked (option_map (λ text. text.now) o.rounds) ≡ Some mode.rounds
  pub log : option_map (λ text. text.now) o.log ≡ option_map (λ text. text.now) mode.log
  pub folder : option_map (λ text. text.now) o.folder ≡ option_map (λ text. text.now) mode.folder

-- a server runs as the options say, under the settings that they and the keys file make
pub record IsServer (known : List ℕ → Option (List ℕ)) (o : ServeOptions) (mode : ServeMode) (settings : Settings) : Type 0 where
  pub setup : Setup
  pub runs : IsServeModeOf o mode
  pub asked : IsSetupOf o.common setup
  pub configured : IsConfigured (known setup.keys.now) setup settings

-- each option is of its form
abbrev pub are_server_options : ServeOptions → Bool
are_server_options o = are_serve_options o && are_options o.common

-- the options are right, and there are no settings for this reason
abbrev pub HasModeAndConfigFault : (List ℕ → Option (List ℕ)) → ServeOptions → Fault → Type 0
HasModeAndConfigFault known o fault = (are_serve_options o ≡ true) × HasConfigFault known o.common fault

-- why no server is started with the options, each fault only where none that comes before it is there
abbrev pub IsServerFault : (List ℕ → Option (List ℕ)) → ServeOptions → Fault → Type 0
IsServerFault known o BadSetting = (are_server_options o ≡ false) ⊎ HasModeAndConfigFault known o BadSetting
IsServerFault known o (CannotRead path) = HasModeAndConfigFault known o (CannotRead path)
IsServerFault known o (BadKeysLine number) = HasModeAndConfigFault known o (BadKeysLine number)
IsServerFault known o OutOfMemory = are_server_options o ≡ true
IsServerFault known o _ = ⊥
