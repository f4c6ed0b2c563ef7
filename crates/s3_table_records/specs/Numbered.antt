-- The number in the row of the store: that of the next entry, which no entry reaches that made a version or began an upload.
use Rattle.std.specs.Prelude.{◌≡◌, ◌<◌, ◌≤◌, ℕ, pos, IsTrue, List, [], ◌∷◌, is_some}
use Rattle.s3_records.specs.Catalogue.{Catalogue}
use Rattle.s3_records.specs.OpenUploads.{upload_at}
use Rattle.s3_records.specs.Places.{AreBelow}
use Rattle.s3_rows.specs.Columns.{StoreColumns, Tables}
use Rattle.s3_rows.specs.Meaning.{catalogue_of}
use Rattle.s3_stored_bodies.specs.Numbers.{Contents}
use Rattle.s3_stored_rows.specs.Bodies.{encoding}
use Rattle.s3_table_records.specs.Kept.{Kept, IsKept, catalogue}

-- the row of the store that says a number
abbrev pub row_of : ℕ → StoreColumns
row_of number = record { row = pos 1; form = pos 1; number = pos number }

-- the row of the store is there, alone, and says this number
abbrev pub SaysNumber : ℕ → Tables → Type 0
SaysNumber number t = (store : StoreColumns) × (store.row ≡ pos 1) × (store.number ≡ pos number) × (t.store ≡ store ∷ [])

-- it says this number or a later one
abbrev pub SaysAtLeast : ℕ → Tables → Type 0
SaysAtLeast number t = (said : ℕ) × (number ≤ said) × SaysNumber said t

-- and so do whatever rows a crash leaves
abbrev pub LeavesNumber : (Tables → Type 0) → ℕ → Type 0
LeavesNumber leaves number = (t : Tables) → leaves t → SaysAtLeast number t

-- a number is above those of all versions, and above the ids of all open uploads
pub record IsAbove {B : Type 0} (n : ℕ) (c : Catalogue B) : Type 0 where
  pub versions : AreBelow n c
  pub uploads : (name key : List ℕ) (id : ℕ) → IsTrue (is_some (upload_at c name key id)) → id < n

-- the row of the store says a number that is above those of all versions and open uploads; what bytes stand under the numbers of
-- bodies plays no part in that
pub record AreNumbered (t : Tables) : Type 0 where
  pub number : ℕ
  pub contents : Contents
  pub says : SaysNumber number t
  pub above : IsAbove number (catalogue_of (encoding contents) t)

-- What holds of records between two calls, where this is the number of the next entry, and that one is in the row of the store: the
-- next one is above all, and whatever rows a crash may leave say one that is above all of theirs.
pub record IsNumbered (leaves : Tables → Type 0) (number written : ℕ) (k : Kept) : Type 0 where
  pub kept : IsKept k
  pub above : IsAbove number (catalogue k)
  pub says : SaysNumber written k.tables
  pub left : (t : Tables) → leaves t → AreNumbered t
