-- What an edit of one table makes of all.
use Rattle.std.proofs.Common.{◌≡◌, ℤ, List, map, ◌∙◌, arith}
use Rattle.sqlite_value.specs.Order.{Row}
use Rattle.sqlite_trees.specs.Tree.{Trees}
use Rattle.sqlite.specs.Effect.{Database}
use Rattle.sqlite_keyed.specs.Keyed.{IsKeyedBy}
use Rattle.s3_rows.specs.Columns.{BucketColumns, VersionColumns, UploadColumns, PartColumns, StoreColumns, Tables}
use Rattle.s3_tables.specs.Schema.{schema}
use Rattle.s3_rows.specs.Soundness.{bucket_row, version_row, upload_row, part_row}
use Rattle.s3_stored_rows.specs.Changes.{store_row}
use Rattle.s3_tables.specs.Stored.{stored, HoldsRows, Stores, bucket_cells, version_cells, upload_cells, part_cells, store_cells}
use Rattle.s3_tables.proofs.RowLemmas.{Edits}

moved : {X : Type 0} (row : X → ℤ) (cells : X → Row) {a b : List Row} {list : List X} → b ≡ a → HoldsRows row cells a list → HoldsRows row cells b list
moved row cells e h = record { keyed = h.keyed; rows = e ∙ h.rows }

-- the database after the edit stores these tables
abbrev pub Stands : Database → Tables → Type 0
Stands after t = (after.schema ≡ schema) × Stores after.trees t

module _ (db : Trees) (after : Database) (t : Tables) (was : Stores db t) where
  pub buckets_edited : (list : List BucketColumns) → IsKeyedBy bucket_row list → Edits 0 (map (stored bucket_row bucket_cells) list) db after → Stands after (record t { buckets = list })
  buckets_edited list keyed e = (
    e.schema_is,
    record {
      sound = e.sound;
      buckets = record { keyed = keyed; rows = e.rows_are };
      versions = moved version_row version_cells (e.others.1.0 (λ same. absurd (omega arith))) was.versions;
      uploads = moved upload_row upload_cells (e.others.1.1.0 (λ same. absurd (omega arith))) was.uploads;
      parts = moved part_row part_cells (e.others.1.1.1.0 (λ same. absurd (omega arith))) was.parts;
      store = moved store_row store_cells (e.others.1.1.1.1.0 (λ same. absurd (omega arith))) was.store;
    },
  )

  pub versions_edited : (list : List VersionColumns) → IsKeyedBy version_row list → Edits 2 (map (stored version_row version_cells) list) db after → Stands after (record t { versions = list })
  versions_edited list keyed e = (
    e.schema_is,
    record {
      sound = e.sound;
      buckets = moved bucket_row bucket_cells (e.others.0 (λ same. absurd (omega arith))) was.buckets;
      versions = record { keyed = keyed; rows = e.rows_are };
      uploads = moved upload_row upload_cells (e.others.1.1.0 (λ same. absurd (omega arith))) was.uploads;
      parts = moved part_row part_cells (e.others.1.1.1.0 (λ same. absurd (omega arith))) was.parts;
      store = moved store_row store_cells (e.others.1.1.1.1.0 (λ same. absurd (omega arith))) was.store;
    },
  )

  pub uploads_edited : (list : List UploadColumns) → IsKeyedBy upload_row list → Edits 5 (map (stored upload_row upload_cells) list) db after → Stands after (record t { uploads = list })
  uploads_edited list keyed e = (
    e.schema_is,
    record {
      sound = e.sound;
      buckets = moved bucket_row bucket_cells (e.others.0 (λ same. absurd (omega arith))) was.buckets;
      versions = moved version_row version_cells (e.others.1.0 (λ same. absurd (omega arith))) was.versions;
      uploads = record { keyed = keyed; rows = e.rows_are };
      parts = moved part_row part_cells (e.others.1.1.1.0 (λ same. absurd (omega arith))) was.parts;
      store = moved store_row store_cells (e.others.1.1.1.1.0 (λ same. absurd (omega arith))) was.store;
    },
  )

  pub parts_edited : (list : List PartColumns) → IsKeyedBy part_row list → Edits 7 (map (stored part_row part_cells) list) db after → Stands after (record t { parts = list })
  parts_edited list keyed e = (
    e.schema_is,
    record {
      sound = e.sound;
      buckets = moved bucket_row bucket_cells (e.others.0 (λ same. absurd (omega arith))) was.buckets;
      versions = moved version_row version_cells (e.others.1.0 (λ same. absurd (omega arith))) was.versions;
      uploads = moved upload_row upload_cells (e.others.1.1.0 (λ same. absurd (omega arith))) was.uploads;
      parts = record { keyed = keyed; rows = e.rows_are };
      store = moved store_row store_cells (e.others.1.1.1.1.0 (λ same. absurd (omega arith))) was.store;
    },
  )

  pub store_edited : (list : List StoreColumns) → IsKeyedBy store_row list → Edits 9 (map (stored store_row store_cells) list) db after → Stands after (record t { store = list })
  store_edited list keyed e = (
    e.schema_is,
    record {
      sound = e.sound;
      buckets = moved bucket_row bucket_cells (e.others.0 (λ same. absurd (omega arith))) was.buckets;
      versions = moved version_row version_cells (e.others.1.0 (λ same. absurd (omega arith))) was.versions;
      uploads = moved upload_row upload_cells (e.others.1.1.0 (λ same. absurd (omega arith))) was.uploads;
      parts = moved part_row part_cells (e.others.1.1.1.0 (λ same. absurd (omega arith))) was.parts;
      store = record { keyed = keyed; rows = e.rows_are };
    },
  )
