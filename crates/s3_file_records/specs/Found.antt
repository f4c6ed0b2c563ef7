-- What is known of rows that were found, and of records over them.
use Rattle.std.specs.Prelude.{◌≡◌, ◌==◌, ℕ, ◌<◌, List, length, Some, IsTrue, if◌then◌else◌}
use Rattle.std.specs.FinMap as map
use Rattle.sqlite_wal.specs.Recovery.{Image}
use Rattle.sqlite_trees.specs.Tree.{Trees}
use Rattle.sqlite.specs.State.{State, HasCleanDisk}
use Rattle.sqlite.specs.Files.{HoldsDatabase}
use Rattle.s3_found_rows.specs.declared.loading.Found.{Found}
use Rattle.s3_records.specs.Catalogue.{Catalogue}
use Rattle.s3_keepers.specs.Sound.{IsSoundCatalogue}
use Rattle.s3_row_steps.specs.Steps.{AreKept}
use Rattle.s3_rows.specs.Columns.{Tables}
use Rattle.s3_rows.specs.Meaning.{catalogue_of}
use Rattle.s3_stored_bodies.specs.Numbers.{Contents, times}
use Rattle.s3_block_file.specs.Extent.{IsAddressable}
use Rattle.s3_block_bodies.specs.Stored.{extent_of, IsStored, HasNamed}
use Rattle.s3_block_bodies.specs.Parts.{Parts as Bodies, contents_in, uses_in}
use Rattle.s3_tables.specs.Stored.{Stores}
use Rattle.s3_mirrored_rows.specs.Mirror.{Mirror}
use Rattle.s3_table_records.specs.Kept.{Parts, catalogue, kept_in}
use Rattle.s3_table_records.specs.Numbered.{SaysNumber}
use Rattle.s3_stored_rows.specs.Bodies.{encoding, numbers_named}

-- the rows are sound and name these bodies, and the catalogue that they are is sound for entries from the next one on, whatever
-- bytes stand under each number
pub record IsFound (found : Found) (t : Tables) : Type 0 where
  pub kept : AreKept found.next t
  pub named : (n : ℕ) → times n found.bodies.items ≡ times n (numbers_named t)
  pub sound : (contents : Contents) → IsSoundCatalogue (catalogue_of (encoding contents) t) found.number

-- what the row of the store says of a folder that is begun, where it said this number
abbrev pub said : ℕ → ℕ
said number = if number == 0 then 1 else number

-- a connection was open, over a clean disk
abbrev pub WasOpen : State → Type 0
WasOpen s = HasCleanDisk s × IsTrue s.is_open

-- tables have the same rows but for the row of the store
abbrev pub HasOtherStore : Tables → Tables → Type 0
HasOtherStore old new = new ≡ record old { store = new.store }

-- the catalogue of records over rows in memory and a file, and bodies in memory and a file of blocks
abbrev pub catalogue_in : {F D : Type 0} → Parts (Mirror F) (Bodies D) → Catalogue (List ℕ)
catalogue_in {F} records = catalogue (kept_in (λ (rows : Mirror F). rows.memory) contents_in uses_in records)

-- Records are as they were found: their rows are these but for the row of the store, the connection to the tables was open before, and
-- what the file of blocks had under a number that rows name stands there.
pub record AreAsFound (t : Tables) (numbers : List ℕ) (was now : State) (is_clean : Type 0) (blocks : List ℕ) (found : Tables) (contents : Contents) : Type 0 where
  pub rows : HasOtherStore t found
  pub was_open : HasCleanDisk now → WasOpen was
  pub bodies : is_clean → HasNamed blocks (λ n. times n numbers) contents

-- The files of a folder held this catalogue as they were opened, and this number for the next entry: the database in the first two has
-- their rows, and the file of blocks has a body under each number that these name.
pub record HoldsCatalogue (image : Image) (blocks : List ℕ) (held : Catalogue (List ℕ)) (number : ℕ) : Type 0 where
  pub db : Trees
  pub tables : Tables
  pub contents : Contents
  pub is_held : HoldsDatabase image db
  pub stores : Stores db tables
  pub stored : (n : ℕ) → 0 < times n (numbers_named tables)
      → (bytes : List ℕ) × (map.get contents n ≡ Some bytes) × IsAddressable (extent_of n (length bytes)) × IsStored blocks n bytes
  pub means : held ≡ catalogue_of (encoding contents) tables
  pub says : SaysNumber number tables

-- records are those of a folder that held this catalogue and this number, and no wrong answer of the files was taken as true: of the connection to the
-- tables, and of the file of blocks
pub record AreOf (s : State) (is_clean : Type 0) (image : Image) (blocks : List ℕ) (held : Catalogue (List ℕ)) (number : ℕ) : Type 0 where
  pub rows : HasCleanDisk s
  pub bodies : is_clean
  pub holds : HoldsCatalogue image blocks held number

-- What the files of a folder hold as they are opened is what a crash may leave of records over other files, by the connection to their
-- tables and by what it may leave of their file of blocks. None of those files' wrong answers was taken as true.
pub record AreLeft (s : State) (is_clean : Type 0) (may_leave : List ℕ → Type 0) (image : Image) (blocks : List ℕ) : Type 0 where
  pub rows_clean : HasCleanDisk s
  pub bodies_clean : is_clean
  pub db : Trees
  pub rows : s.may_leave db
  pub is_held : HoldsDatabase image db
  pub bodies : may_leave blocks
