-- Which fault is told of which error.
use Rattle.std.specs.Prelude.{◌≡◌, ◌≢◌, ◌⊎◌}
use Rattle.sqlite.specs.declared.error.Error.{Error}
use Rattle.sqlite.specs.declared.error.Error.TheVariants.{SqliteFailure}
use Rattle.sqlite.specs.declared.error.ErrorCode.TheVariants as code
use Rattle.s3_storage.specs.declared.storage_fault.StorageFault.{StorageFault}
use Rattle.s3_storage.specs.declared.storage_fault.StorageFault.TheVariants as fault

-- that of a database
abbrev pub table_fault : Error → StorageFault
table_fault (SqliteFailure code.OutOfMemory) = fault.NoMemory
table_fault (SqliteFailure code.DatabaseBusy) = fault.Held
table_fault (SqliteFailure code.NotADatabase) = fault.NotAStore
table_fault (SqliteFailure code.DatabaseCorrupt) = fault.Damaged
table_fault (SqliteFailure code.DiskFull) = fault.NoRoom
table_fault _ = fault.Failed

-- they say nothing of a form
abbrev pub IsOfTables : StorageFault → Type 0
IsOfTables f = f ≢ fault.LaterForm

-- the system may tell these
abbrev pub IsOfSystem : StorageFault → Type 0
IsOfSystem f = (f ≡ fault.NoMemory) ⊎ ((f ≡ fault.NoRoom) ⊎ (f ≡ fault.Failed))

-- and an open these
abbrev pub IsOfOpening : StorageFault → Type 0
IsOfOpening f = (f ≡ fault.Held) ⊎ ((f ≡ fault.NotAStore) ⊎ IsOfSystem f)
