-- What an open finds.
use Rattle.std.specs.Prelude.{◌≡◌, ◌⊎◌, pos, IsTrue}
use Rattle.sqlite_wal.specs.Recovery.{Image}
use Rattle.sqlite_trees.specs.Tree.{Trees}
use Rattle.sqlite_catalog.specs.Listing.{IsSound}
use Rattle.sqlite.specs.State.{State, HasCleanDisk}
use Rattle.sqlite.specs.Files.{AreFoundIn}
use Rattle.s3_rows.specs.Columns.{StoreColumns}
use Rattle.s3_tables.specs.Schema.{no_schema}
use Rattle.s3_tables.specs.Stored.{tables_in}
use Rattle.s3_tables.specs.Keeping.{tables}
use Rattle.s3_tables.specs.Making.{first_tables}

-- a store that is made has this row alone
abbrev pub first_row : StoreColumns
first_row = record { row = pos 1; form = pos 1; number = pos 0 }

-- the tables are those of the last commit, or are made where it has no table
abbrev pub TakesOver : State → State → Type 0
TakesOver old new = ((old.now.schema ≡ no_schema) × (tables new ≡ first_tables first_row)) ⊎ (tables new ≡ tables_in old.committed.trees)

-- the tables are those that the files held, or are made where they held no table
abbrev pub TakesFrom : Image → State → Type 0
TakesFrom image new = (db : Trees) × AreFoundIn image db × ((IsSound no_schema db × (tables new ≡ first_tables first_row)) ⊎ (tables new ≡ tables_in db))

-- an open connection over a clean disk was so before, with the same tables
abbrev pub StaysTo : State → State → Type 0
StaysTo old new = HasCleanDisk new → IsTrue new.is_open → HasCleanDisk old × IsTrue old.is_open × (tables new ≡ tables old)
