-- The rows of a table as they are stored, and as columns again.
use Rattle.std.specs.Prelude.{◌≡◌, ℕ, ℤ, List, [], ◌∷◌, map}
use Rattle.sqlite_catalog.specs.Listing.{IsSound}
use Rattle.sqlite_rules.specs.Edit.{id_in}
use Rattle.sqlite.specs.declared.types.Value.TheVariants.{Null, Int, Blob}
use Rattle.sqlite_value.specs.Order.{Row, column, bytes}
use Rattle.sqlite_trees.specs.Tree.{Trees, rowid}
use Rattle.sqlite_keyed.specs.Keyed.{IsKeyedBy}
use Rattle.s3_rows.specs.Columns.{BucketColumns, VersionColumns, UploadColumns, PartColumns, StoreColumns, Tables}
use Rattle.s3_rows.specs.Soundness.{bucket_row, version_row, upload_row, part_row}
use Rattle.s3_stored_rows.specs.Changes.{store_row}
use Rattle.s3_tables.specs.Schema.{schema}

-- ---- the cells of a row, after those of the rowid

abbrev pub bucket_cells : BucketColumns → Row
bucket_cells b = Blob b.name ∷ Int b.made ∷ Int b.mode ∷ []

abbrev pub version_cells : VersionColumns → Row
version_cells v = Blob v.bucket ∷ Blob v.key ∷ Int v.number ∷ Int v.id ∷ Int v.moment ∷ Int v.marker ∷ Blob v.tag ∷ Blob v.kept ∷ Int v.size ∷ Blob v.bodies ∷ []

abbrev pub upload_cells : UploadColumns → Row
upload_cells u = Blob u.bucket ∷ Blob u.key ∷ Int u.id ∷ Int u.moment ∷ Blob u.kept ∷ []

abbrev pub part_cells : PartColumns → Row
part_cells p = Int p.upload ∷ Int p.part ∷ Blob p.digest ∷ Int p.moment ∷ Int p.size ∷ Blob p.bodies ∷ []

abbrev pub store_cells : StoreColumns → Row
store_cells s = Int s.form ∷ Int s.number ∷ []

-- the row as it is stored: the rowid, NULL in the column of the rowid, and the other cells
abbrev pub stored : {X : Type 0} → (X → ℤ) → (X → Row) → X → Row
stored row cells x = Int (row x) ∷ Null ∷ cells x

-- the list is in the order of its rowids, of which none comes twice, and the tree has just its rows
pub record HoldsRows {X : Type 0} (row : X → ℤ) (cells : X → Row) (tree : List Row) (list : List X) : Type 0 where
  pub keyed : IsKeyedBy row list
  pub rows : tree ≡ map (stored row cells) list

-- the trees are a database of the schema, and store these tables and nothing else
pub record Stores (db : Trees) (tables : Tables) : Type 0 where
  pub sound : IsSound schema db
  pub buckets : HoldsRows bucket_row bucket_cells (db 0) tables.buckets
  pub versions : HoldsRows version_row version_cells (db 2) tables.versions
  pub uploads : HoldsRows upload_row upload_cells (db 5) tables.uploads
  pub parts : HoldsRows part_row part_cells (db 7) tables.parts
  pub store : HoldsRows store_row store_cells (db 9) tables.store

-- ---- what a row says

abbrev pub int_at : Row → ℕ → ℤ
int_at r at = id_in (column r at)

abbrev pub bytes_at : Row → ℕ → List ℕ
bytes_at r at = bytes (column r at)

abbrev pub bucket_of : Row → BucketColumns
bucket_of r = record { row = id_in (rowid r); name = bytes_at r 2; made = int_at r 3; mode = int_at r 4 }

abbrev pub version_of : Row → VersionColumns
version_of r = record {
  row = id_in (rowid r);
  bucket = bytes_at r 2;
  key = bytes_at r 3;
  number = int_at r 4;
  id = int_at r 5;
  moment = int_at r 6;
  marker = int_at r 7;
  tag = bytes_at r 8;
  kept = bytes_at r 9;
  size = int_at r 10;
  bodies = bytes_at r 11;
}

abbrev pub upload_of : Row → UploadColumns
upload_of r = record { row = id_in (rowid r); bucket = bytes_at r 2; key = bytes_at r 3; id = int_at r 4; moment = int_at r 5; kept = bytes_at r 6 }

abbrev pub part_of : Row → PartColumns
part_of r = record { row = id_in (rowid r); upload = int_at r 2; part = int_at r 3; digest = bytes_at r 4; moment = int_at r 5; size = int_at r 6; bodies = bytes_at r 7 }

abbrev pub store_of : Row → StoreColumns
store_of r = record { row = id_in (rowid r); form = int_at r 2; number = int_at r 3 }

-- the tables that are in a database
abbrev pub tables_in : Trees → Tables
tables_in db = record { buckets = map bucket_of (db 0); versions = map version_of (db 2); uploads = map upload_of (db 5); parts = map part_of (db 7); store = map store_of (db 9) }
