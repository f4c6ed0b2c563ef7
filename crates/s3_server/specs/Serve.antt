-- Why a server fails.
use Rattle.std.specs.Prelude.{◌≡◌, ◌⊎◌, ℕ, List, Option, Some, option_map}
use Rattle.std.specs.Borrow.{Bor}
use Rattle.s3_config.specs.Settings.{Settings}
use Rattle.s3_settings.specs.declared.options.ServeOptions.{ServeOptions}
use Rattle.s3_settings.specs.declared.fault.Fault.{Fault}
use Rattle.s3_settings.specs.declared.fault.Fault.TheVariants.{CannotListen, CannotUse, CannotWrite, OutputFailed, OutOfMemory}
use Rattle.s3_settings.specs.declared.server.ServeMode.{ServeMode}
use Rattle.s3_storage.specs.declared.storage_fault.StorageFault.{StorageFault}
use Rattle.s3_settings.specs.Server.{IsServer, IsServerFault}

-- the options ask for a server that can be started
abbrev pub HasServer : (List ℕ → Option (List ℕ)) → ServeOptions → Type 0
HasServer known o = (mode : ServeMode) × (settings : Settings) × IsServer known o mode settings

-- why a server that is asked for fails, each fault only where none that comes before it is there: first what is wrong with the
-- options, the keys file and the settings, and then the file of the log, the folder, the address of the options, the output or the
-- memory; and a folder may fail later too, while the server runs
abbrev pub IsServeFault : (List ℕ → Option (List ℕ)) → ServeOptions → Fault → Type 0
IsServeFault known o (CannotListen address) =
    (option_map (λ text. text.now) o.listen ≡ Some address.now) × HasServer known o
IsServeFault known o (CannotWrite path) =
    (option_map (λ text. text.now) o.log ≡ Some path.now) × HasServer known o
IsServeFault known o (CannotUse path why) =
    (option_map (λ text. text.now) o.folder ≡ Some path.now) × HasServer known o
IsServeFault known o OutputFailed = HasServer known o
IsServeFault known o fault = IsServerFault known o fault

-- The rest serves clauses of private functions alone.

-- why a server has no log that it is asked for
abbrev pub IsLogFault : Option (Bor (List ℕ)) → Fault → Type 0
IsLogFault log fault = ((path : Bor (List ℕ)) × (log ≡ Some path) × (fault ≡ CannotWrite path)) ⊎ (fault ≡ OutOfMemory)

-- why a server doesn't get the records of a folder, or can't keep them there any more
abbrev pub IsFolderFault : Option (Bor (List ℕ)) → Fault → Type 0
IsFolderFault folder fault =
    ((path : Bor (List ℕ)) × (why : StorageFault) × (folder ≡ Some path) × (fault ≡ CannotUse path why)) ⊎ (fault ≡ OutOfMemory)

-- why a server doesn't listen on an address
abbrev pub IsListenFault : Bor (List ℕ) → Fault → Type 0
IsListenFault address fault = (fault ≡ CannotListen address) ⊎ (fault ≡ OutOfMemory)

-- why it isn't told that it does
abbrev pub IsToldFault : Bor (List ℕ) → Fault → Type 0
IsToldFault address fault = IsListenFault address fault ⊎ (fault ≡ OutputFailed)

-- why a server fails that has its log: it doesn't get the records of its folder, or loses them, or isn't told that it listens
abbrev pub IsKeptFault : ServeMode → Fault → Type 0
IsKeptFault mode fault = IsFolderFault mode.folder fault ⊎ IsToldFault mode.address fault

-- why a server fails whose options, keys file and settings are right
abbrev pub IsModeFault : ServeMode → Fault → Type 0
IsModeFault mode fault = IsLogFault mode.log fault ⊎ IsKeptFault mode fault
