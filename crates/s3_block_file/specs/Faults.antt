-- What an error says of a disk.
use Rattle.std.specs.Prelude.{◌≡◌, ℕ, Result, MatchResult}
use Rattle.sqlite_disk.specs.Disk.{MoreFaults}
use Rattle.s3_storage.specs.declared.storage_fault.StorageFault.{StorageFault}
use Rattle.s3_storage.specs.declared.storage_fault.StorageFault.TheVariants.{NoMemory, Damaged, NoRoom, Failed}

-- an error of a call that writes is NoRoom exactly where the disk counts one more call that found no room
abbrev pub IsTold : StorageFault → ℕ → ℕ → Type 0
IsTold NoRoom old new = MoreFaults old new
IsTold Failed old new = new ≡ old
IsTold _ old new = ⊥

abbrev pub TellsRoom : {T : Type 0} → Result T StorageFault → ℕ → ℕ → Type 0
TellsRoom result old new = MatchResult result (λ _. new ≡ old) (λ e. IsTold e old new)

-- where a call failed, the disk counts one more
abbrev pub IfFailed : StorageFault → Type 0 → Type 0
IfFailed Failed P = P
IfFailed _ P = Unit {0}

abbrev pub HasCause : {T : Type 0} → Result T StorageFault → ℕ → ℕ → Type 0
HasCause result old new = MatchResult result (λ _. new ≡ old) (λ e. IfFailed e (MoreFaults old new))

-- the errors of an open
abbrev pub IsOpenFault : StorageFault → Type 0
IsOpenFault NoMemory = Unit {0}
IsOpenFault Damaged = Unit {0}
IsOpenFault NoRoom = Unit {0}
IsOpenFault Failed = Unit {0}
IsOpenFault _ = ⊥
