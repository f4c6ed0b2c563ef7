-- What a connection keeps of the tables, also over a crash.
use Rattle.std.specs.Prelude.{◌≡◌, Bool, false, IsTrue, Result, OnOk, OnErr}
use Rattle.sqlite_trees.specs.Tree.{Trees}
use Rattle.sqlite.specs.State.{State, HasCleanDisk, KeepsCommit, Survives}
use Rattle.sqlite.specs.declared.error.Error.{Error}
use Rattle.sqlite.specs.Effect.{Database}
use Rattle.s3_rows.specs.Columns.{Tables}
use Rattle.s3_tables.specs.Schema.{schema}
use Rattle.s3_tables.specs.Stored.{Stores, tables_in}

-- the tables that a connection shows
abbrev pub tables : State → Tables
tables s = tables_in s.now.trees

-- an open connection stores the tables, and a crash leaves them and nothing else
pub record Serves (s : State) : Type 0 where
  pub schema_is : s.now.schema ≡ schema
  pub stores : Stores s.now.trees (tables s)
  pub committed : s.committed ≡ s.now
  pub settled : (db : Trees) → s.may_leave db → Stores db (tables s)

-- so it is between calls
pub record Keeps (s : State) : Type 0 where
  pub autocommit : s.in_transaction ≡ false
  pub serves : IsTrue s.is_open → Serves s
  -- also where it is shut
  pub found : (db : Trees) → s.may_leave db → Stores db (tables_in db)

-- the change is made, and no crash undoes it
pub record Makes (change : Tables → Tables) (old new : State) : Type 0 where
  pub is_open : IsTrue new.is_open
  pub made : tables new ≡ change (tables old)
  pub settled : (db : Trees) → new.may_leave db → Stores db (tables new)

-- a crash may leave the change of an open connection; one that was shut changes nothing any more
abbrev pub MayBecome : (Tables → Tables) → State → Trees → Type 0
MayBecome change old db = IsTrue old.is_open × Stores db (change (tables old))

-- nothing is changed, or the disk has shut the connection
abbrev pub LeavesAlone : State → State → Type 0
LeavesAlone old new = IsTrue new.is_open → tables new ≡ tables old

-- What a call that writes promises: where it answers Ok the change is made, and no crash undoes it; where it answers an error
-- and the connection is open nothing is changed; a connection that was shut stays shut; and a crash, during the call or after
-- it, leaves what it could leave before, or, where the connection was open, the whole change.
pub record Steps {X : Type 0} (change : Tables → Tables) (old new : State) (result : Result X Error) : Type 0 where
  pub keeps : HasCleanDisk new → Keeps new
  pub made : HasCleanDisk new → OnOk result (Makes change old new)
  pub kept : HasCleanDisk new → OnErr result (LeavesAlone old new)
  pub was_open : HasCleanDisk new → IsTrue new.is_open → IsTrue old.is_open
  pub survives : Survives old new (MayBecome change old)

-- the same of a call that reads
pub record Reads (old new : State) : Type 0 where
  pub keeps : HasCleanDisk new → Keeps new
  pub kept : HasCleanDisk new → LeavesAlone old new
  pub was_open : HasCleanDisk new → IsTrue new.is_open → IsTrue old.is_open
  pub survives : Survives old new (λ _. ⊥)

-- a transaction over this last commit, which sees these tables
pub record Inside (base : Database) (t : Tables) (s : State) : Type 0 where
  pub is_open : IsTrue s.is_open
  pub in_transaction : IsTrue s.in_transaction
  pub schema_is : s.now.schema ≡ schema
  pub stores : Stores s.now.trees t
  pub committed : s.committed ≡ base

-- What a statement of a transaction promises: the change where it answers Ok, and that nothing is committed, nor left by a crash.
pub record Advances {X : Type 0} (change : Tables → Tables) (old new : State) (result : Result X Error) : Type 0 where
  pub made : HasCleanDisk new → OnOk result ((base : Database) (t : Tables) → Inside base t old → Inside base (change t) new)
  pub kept : HasCleanDisk new → KeepsCommit old new
  pub survives : Survives old new (λ _. ⊥)

-- what is kept between calls, where the connection is open as long as it is live
pub record IsKeeper (is_live : Bool) (s : State) : Type 0 where
  pub keeps : HasCleanDisk s → Keeps s
  pub answers : IsTrue is_live → HasCleanDisk s → IsTrue s.is_open

-- open, with these tables
pub record IsMade (t : Tables) (s : State) : Type 0 where
  pub keeps : Keeps s
  pub is_open : IsTrue s.is_open
  pub made : tables s ≡ t
