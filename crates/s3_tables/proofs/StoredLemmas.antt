-- What is stored is read back.
use Rattle.std.proofs.Common.{◌≡◌, ℤ, List, [], ◌∷◌, map, refl, sym, ap, subst, ◌∙◌}
use Rattle.sqlite_value.specs.Order.{Row}
use Rattle.sqlite_trees.specs.Tree.{Trees}
use Rattle.s3_rows.specs.Columns.{Tables}
use Rattle.s3_rows.specs.Soundness.{bucket_row, version_row, upload_row, part_row}
use Rattle.s3_stored_rows.specs.Changes.{store_row}
use Rattle.s3_tables.specs.Stored.{stored, HoldsRows, Stores, tables_in, bucket_cells, bucket_of, version_cells, version_of, upload_cells, upload_of, part_cells, part_of, store_cells, store_of}

read_back : {X : Type 0} (row : X → ℤ) (cells : X → Row) (back : Row → X) → ((x : X) → back (stored row cells x) ≡ x) → (list : List X) → map back (map (stored row cells) list) ≡ list
read_back row cells back is [] = refl
read_back row cells back is (x ∷ list) = rw (is x) (ap (λ l. x ∷ l) (read_back row cells back is list))

held : {X : Type 0} (row : X → ℤ) (cells : X → Row) (back : Row → X) → ((x : X) → back (stored row cells x) ≡ x) → (tree : List Row) (list : List X) → HoldsRows row cells tree list → map back tree ≡ list
held row cells back is tree list holds = ap (map back) holds.rows ∙ read_back row cells back is list

same_tables : {a b : Tables} → a.buckets ≡ b.buckets → a.versions ≡ b.versions → a.uploads ≡ b.uploads → a.parts ≡ b.parts → a.store ≡ b.store → a ≡ b
same_tables p q r s t = λ i. record { buckets = p i; versions = q i; uploads = r i; parts = s i; store = t i }

pub tables_are : (db : Trees) (t : Tables) → Stores db t → tables_in db ≡ t
tables_are db t s = same_tables
    (held bucket_row bucket_cells bucket_of (λ _. refl) (db 0) t.buckets s.buckets) (held version_row version_cells version_of (λ _. refl) (db 2) t.versions s.versions)
    (held upload_row upload_cells upload_of (λ _. refl) (db 5) t.uploads s.uploads) (held part_row part_cells part_of (λ _. refl) (db 7) t.parts s.parts)
    (held store_row store_cells store_of (λ _. refl) (db 9) t.store s.store)

pub stores_all : (db : Trees) (t : Tables) → Stores db t → Stores db (tables_in db)
stores_all db t s = subst (Stores db) (sym (tables_are db t s)) s
