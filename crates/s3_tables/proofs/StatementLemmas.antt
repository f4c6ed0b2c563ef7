-- The statements that write a row, inside a transaction.
use Rattle.std.proofs.Common.{◌≡◌, ℕ, ℤ, List, [], ◌∷◌, false, Err, Result, refl, IsTrue}
use Rattle.sqlite.specs.declared.types.Value.TheVariants.{Int, Blob}
use Rattle.sqlite.specs.Command.TheVariants.{Insert}
use Rattle.sqlite_value.specs.Order.{Row}
use Rattle.sqlite_trees.specs.declared.store.Store.{Ghosts}
use Rattle.sqlite.specs.declared.error.Error.{Error}
use Rattle.sqlite.specs.Held.{Held, state}
use Rattle.sqlite.specs.State.{HasCleanDisk, Survives, ExecutesInside}
use Rattle.sqlite_rules.specs.Cast.{cast_all}
use Rattle.sqlite_keyed.proofs.KeyedLemmas.{IsKeyedBy-insert_by, IsKeyedBy-delete_where}
use Rattle.std.specs.Ordering.{int_eq}
use Rattle.s3_rows.specs.Columns.{BucketColumns, VersionColumns, UploadColumns, PartColumns, StoreColumns}
use Rattle.s3_tables.specs.Schema.{bucket_list, version_list, upload_list, part_list, store_list, bucket_keys, version_keys, upload_keys, part_keys, store_keys, bucket_orders, version_orders, upload_orders, part_orders, store_orders}
use Rattle.s3_rows.specs.Soundness.{bucket_row, version_row, upload_row, part_row}
use Rattle.s3_tables.specs.Stored.{bucket_cells, version_cells, upload_cells, part_cells, store_cells}
use Rattle.s3_stored_rows.specs.Changes.{store_row, with_bucket, with_version, with_upload, with_part, with_store, without_row}
use Rattle.s3_tables.specs.Statements.{drop_text}
use Rattle.s3_stored_rows.specs.declared.rows.TableName.{TableName}
use Rattle.s3_stored_rows.specs.declared.rows.TableName.TheVariants.{Buckets, Versions, Uploads, Parts, Store}
use Rattle.s3_tables.specs.Keeping.{Advances}
use Rattle.s3_tables.proofs.Texts as text
use Rattle.s3_tables.proofs.RowLemmas.{inserts, drops, number_kept}
use Rattle.s3_tables.proofs.TableLemmas.{buckets_edited, versions_edited, uploads_edited, parts_edited, store_edited}
use Rattle.s3_tables.proofs.TransactionLemmas.{advances}
use Rattle.std.specs.Prelude.{codes}

bucket_fits : (x : BucketColumns) → cast_all bucket_list (bucket_cells x) ≡ bucket_cells x
bucket_fits x = simp number_kept

version_fits : (x : VersionColumns) → cast_all version_list (version_cells x) ≡ version_cells x
version_fits x = simp number_kept

upload_fits : (x : UploadColumns) → cast_all upload_list (upload_cells x) ≡ upload_cells x
upload_fits x = simp number_kept

part_fits : (x : PartColumns) → cast_all part_list (part_cells x) ≡ part_cells x
part_fits x = simp number_kept

store_fits : (x : StoreColumns) → cast_all store_list (store_cells x) ≡ store_cells x
store_fits x = simp number_kept

abbrev pub bucket_params : BucketColumns → Row
bucket_params x = Int x.row ∷ Blob x.name ∷ Int x.made ∷ Int x.mode ∷ []

abbrev pub version_params : VersionColumns → Row
version_params x = Int x.row ∷ Blob x.bucket ∷ Blob x.key ∷ Int x.number ∷ Int x.id ∷ Int x.moment ∷ Int x.marker ∷ Blob x.tag ∷ Blob x.kept ∷ Int x.size ∷ Blob x.bodies ∷ []

abbrev pub upload_params : UploadColumns → Row
upload_params x = Int x.row ∷ Blob x.bucket ∷ Blob x.key ∷ Int x.id ∷ Int x.moment ∷ Blob x.kept ∷ []

abbrev pub part_params : PartColumns → Row
part_params x = Int x.row ∷ Int x.upload ∷ Int x.part ∷ Blob x.digest ∷ Int x.moment ∷ Int x.size ∷ Blob x.bodies ∷ []

abbrev pub store_params : StoreColumns → Row
store_params x = Int x.row ∷ Int x.form ∷ Int x.number ∷ []

module _ {S : Type 0} (g : Ghosts S) (old new : Held S) (r : Result ℕ Error) {stopped : Error} (ended : old.in_transaction ≡ false → (r ≡ Err stopped) × (new ≡ old)) (survives : Survives (state g old) (state g new) (λ _. ⊥)) where
  abbrev Ran : List ℕ → Row → Type 0
  Ran sql params = HasCleanDisk (state g new) → IsTrue old.in_transaction → ExecutesInside 0 sql params (state g old) (state g new) r

  pub bucket_added : (x : BucketColumns) → Ran text.add_bucket (bucket_params x) → Advances (with_bucket x) (state g old) (state g new) r
  bucket_added x ran = advances g old new text.add_bucket (bucket_params x) r (Insert 0 text.bucket_source) text.add_bucket_is (record { runs = λ _ _ _ _ _ w. w }) (with_bucket x)
      (λ t sql tally after has was does sound. buckets_edited (state g old).now.trees after t was _ (IsKeyedBy-insert_by bucket_row t.buckets x was.buckets.keyed)
      (inserts bucket_row bucket_cells 0 (λ _. refl) (codes "buckets") bucket_list bucket_keys bucket_orders 0 refl (state g old) x t.buckets text.bucket_terms 5 (bucket_params x) sql tally after refl (bucket_fits x) has was.buckets does sound))
      ended ran survives

  pub bucket_dropped : (id : ℤ) → Ran text.drop_bucket (Int id ∷ []) → Advances (without_row Buckets id) (state g old) (state g new) r
  bucket_dropped id ran = advances g old new text.drop_bucket (Int id ∷ []) r (text.drop_command 0 0) text.drop_bucket_is (record { runs = λ _ _ _ _ _ w. w }) (without_row Buckets id)
      (λ t sql tally after has was does sound. buckets_edited (state g old).now.trees after t was _ (IsKeyedBy-delete_where bucket_row (λ x. int_eq (bucket_row x) id) t.buckets was.buckets.keyed)
      (drops bucket_row bucket_cells 0 (λ _. refl) (codes "buckets") bucket_list bucket_keys bucket_orders 0 refl (state g old) id t.buckets sql tally after has was.buckets does sound))
      ended ran survives

  pub version_added : (x : VersionColumns) → Ran text.add_version (version_params x) → Advances (with_version x) (state g old) (state g new) r
  version_added x ran = advances g old new text.add_version (version_params x) r (Insert 1 text.version_source) text.add_version_is (record { runs = λ _ _ _ _ _ w. w }) (with_version x)
      (λ t sql tally after has was does sound. versions_edited (state g old).now.trees after t was _ (IsKeyedBy-insert_by version_row t.versions x was.versions.keyed)
      (inserts version_row version_cells 2 (λ _. refl) (codes "versions") version_list version_keys version_orders 1 refl (state g old) x t.versions text.version_terms 12 (version_params x) sql tally after refl (version_fits x) has was.versions does sound))
      ended ran survives

  pub version_dropped : (id : ℤ) → Ran text.drop_version (Int id ∷ []) → Advances (without_row Versions id) (state g old) (state g new) r
  version_dropped id ran = advances g old new text.drop_version (Int id ∷ []) r (text.drop_command 1 2) text.drop_version_is (record { runs = λ _ _ _ _ _ w. w }) (without_row Versions id)
      (λ t sql tally after has was does sound. versions_edited (state g old).now.trees after t was _ (IsKeyedBy-delete_where version_row (λ x. int_eq (version_row x) id) t.versions was.versions.keyed)
      (drops version_row version_cells 2 (λ _. refl) (codes "versions") version_list version_keys version_orders 1 refl (state g old) id t.versions sql tally after has was.versions does sound))
      ended ran survives

  pub upload_added : (x : UploadColumns) → Ran text.add_upload (upload_params x) → Advances (with_upload x) (state g old) (state g new) r
  upload_added x ran = advances g old new text.add_upload (upload_params x) r (Insert 2 text.upload_source) text.add_upload_is (record { runs = λ _ _ _ _ _ w. w }) (with_upload x)
      (λ t sql tally after has was does sound. uploads_edited (state g old).now.trees after t was _ (IsKeyedBy-insert_by upload_row t.uploads x was.uploads.keyed)
      (inserts upload_row upload_cells 5 (λ _. refl) (codes "uploads") upload_list upload_keys upload_orders 2 refl (state g old) x t.uploads text.upload_terms 7 (upload_params x) sql tally after refl (upload_fits x) has was.uploads does sound))
      ended ran survives

  pub upload_dropped : (id : ℤ) → Ran text.drop_upload (Int id ∷ []) → Advances (without_row Uploads id) (state g old) (state g new) r
  upload_dropped id ran = advances g old new text.drop_upload (Int id ∷ []) r (text.drop_command 2 5) text.drop_upload_is (record { runs = λ _ _ _ _ _ w. w }) (without_row Uploads id)
      (λ t sql tally after has was does sound. uploads_edited (state g old).now.trees after t was _ (IsKeyedBy-delete_where upload_row (λ x. int_eq (upload_row x) id) t.uploads was.uploads.keyed)
      (drops upload_row upload_cells 5 (λ _. refl) (codes "uploads") upload_list upload_keys upload_orders 2 refl (state g old) id t.uploads sql tally after has was.uploads does sound))
      ended ran survives

  pub part_added : (x : PartColumns) → Ran text.add_part (part_params x) → Advances (with_part x) (state g old) (state g new) r
  part_added x ran = advances g old new text.add_part (part_params x) r (Insert 3 text.part_source) text.add_part_is (record { runs = λ _ _ _ _ _ w. w }) (with_part x)
      (λ t sql tally after has was does sound. parts_edited (state g old).now.trees after t was _ (IsKeyedBy-insert_by part_row t.parts x was.parts.keyed)
      (inserts part_row part_cells 7 (λ _. refl) (codes "parts") part_list part_keys part_orders 3 refl (state g old) x t.parts text.part_terms 8 (part_params x) sql tally after refl (part_fits x) has was.parts does sound))
      ended ran survives

  pub part_dropped : (id : ℤ) → Ran text.drop_part (Int id ∷ []) → Advances (without_row Parts id) (state g old) (state g new) r
  part_dropped id ran = advances g old new text.drop_part (Int id ∷ []) r (text.drop_command 3 7) text.drop_part_is (record { runs = λ _ _ _ _ _ w. w }) (without_row Parts id)
      (λ t sql tally after has was does sound. parts_edited (state g old).now.trees after t was _ (IsKeyedBy-delete_where part_row (λ x. int_eq (part_row x) id) t.parts was.parts.keyed)
      (drops part_row part_cells 7 (λ _. refl) (codes "parts") part_list part_keys part_orders 3 refl (state g old) id t.parts sql tally after has was.parts does sound))
      ended ran survives

  pub store_added : (x : StoreColumns) → Ran text.add_store (store_params x) → Advances (with_store x) (state g old) (state g new) r
  store_added x ran = advances g old new text.add_store (store_params x) r (Insert 4 text.store_source) text.add_store_is (record { runs = λ _ _ _ _ _ w. w }) (with_store x)
      (λ t sql tally after has was does sound. store_edited (state g old).now.trees after t was _ (IsKeyedBy-insert_by store_row t.store x was.store.keyed)
      (inserts store_row store_cells 9 (λ _. refl) (codes "store") store_list store_keys store_orders 4 refl (state g old) x t.store text.store_terms 4 (store_params x) sql tally after refl (store_fits x) has was.store does sound))
      ended ran survives

  pub store_dropped : (id : ℤ) → Ran text.drop_store (Int id ∷ []) → Advances (without_row Store id) (state g old) (state g new) r
  store_dropped id ran = advances g old new text.drop_store (Int id ∷ []) r (text.drop_command 4 9) text.drop_store_is (record { runs = λ _ _ _ _ _ w. w }) (without_row Store id)
      (λ t sql tally after has was does sound. store_edited (state g old).now.trees after t was _ (IsKeyedBy-delete_where store_row (λ x. int_eq (store_row x) id) t.store was.store.keyed)
      (drops store_row store_cells 9 (λ _. refl) (codes "store") store_list store_keys store_orders 4 refl (state g old) id t.store sql tally after has was.store does sound))
      ended ran survives

  pub dropped : (table : TableName) (id : ℤ) → Ran (drop_text table) (Int id ∷ []) → Advances (without_row table id) (state g old) (state g new) r
  dropped Buckets id ran = bucket_dropped id ran
  dropped Versions id ran = version_dropped id ran
  dropped Uploads id ran = upload_dropped id ran
  dropped Parts id ran = part_dropped id ran
  dropped Store id ran = store_dropped id ran
