-- What the queries for all rows of a table find. A keeper's rows stand in the order of their rowids, so these are the rows as
-- they stand.
use Rattle.std.proofs.Common.{◌≡◌, ℕ, true, List, [], map, refl, ◌∙◌}
use Rattle.sqlite.specs.Order.{Row}
use Rattle.sqlite.specs.Query.{Query, IsAnswer}
use Rattle.sqlite.specs.Program.{overlay}
use Rattle.sqlite.specs.State.{State, Shown}
use Rattle.sqlite.proofs.Callers.{reads_as}
use Rattle.sqlite.specs.declared.types.Value.TheVariants.{Null, Int}
use Rattle.sqlite.specs.Term.{lit}
use Rattle.std.specs.Prelude.{negsuc}
use Rattle.s3_tables.specs.Schema.{schema}
use Rattle.s3_rows.specs.Soundness.{bucket_row, version_row, upload_row, part_row}
use Rattle.s3_stored_rows.specs.Changes.{store_row}
use Rattle.s3_tables.specs.Stored.{bucket_cells, version_cells, upload_cells, part_cells, store_cells}
use Rattle.s3_tables.specs.Keeping.{tables, Serves}
use Rattle.s3_tables.specs.Reading.{bucket_shown, version_shown, upload_shown, part_shown, store_shown}
use Rattle.s3_tables.proofs.ReadTexts as read
use Rattle.s3_tables.proofs.ReadTexts.{Asks}
use Rattle.s3_tables.proofs.Resolving.{is_understood}
use Rattle.s3_tables.proofs.RowTexts as text
use Rattle.s3_tables.proofs.AnswerLemmas.{by_row}
use Rattle.sqlite_typed.proofs.AnswerLemmas.{unfiltered}

answer : (sql : List ℕ) (q : Query) (names : List (List ℕ)) → Asks sql q names → (old new : State) (rows : List Row) → Serves old × Shown sql [] old new rows → IsAnswer q (overlay old.now.trees []) [] rows
answer sql q names asks old new rows h =
    let it = is_understood schema sql _ asks in
    (reads_as sql [] old new schema h.0.schema_is _ it.0 it.1 it.2 rows h.1).answer Null

module _ (old new : State) (rows : List Row) where
  pub bucket_rows_found : Serves old × Shown text.bucket_rows [] old new rows → map bucket_shown rows ≡ (tables old).buckets
  bucket_rows_found h =
      by_row bucket_row bucket_cells 0 (λ _. refl) bucket_shown old.now.trees (tables old).buckets h.0.stores.buckets [] read.bucket_project (lit (Int (negsuc 0))) [] rows (λ _. true)
      (λ _. refl) (λ _. refl) (answer text.bucket_rows _ read.bucket_names text.bucket_rows_is old new rows h) ∙ unfiltered (tables old).buckets refl

  pub version_rows_found : Serves old × Shown text.version_rows [] old new rows → map version_shown rows ≡ (tables old).versions
  version_rows_found h =
      by_row version_row version_cells 2 (λ _. refl) version_shown old.now.trees (tables old).versions h.0.stores.versions [] read.version_project (lit (Int (negsuc 0))) [] rows (λ _. true)
      (λ _. refl) (λ _. refl) (answer text.version_rows _ read.version_names text.version_rows_is old new rows h) ∙ unfiltered (tables old).versions refl

  pub upload_rows_found : Serves old × Shown text.upload_rows [] old new rows → map upload_shown rows ≡ (tables old).uploads
  upload_rows_found h =
      by_row upload_row upload_cells 5 (λ _. refl) upload_shown old.now.trees (tables old).uploads h.0.stores.uploads [] read.upload_project (lit (Int (negsuc 0))) [] rows (λ _. true)
      (λ _. refl) (λ _. refl) (answer text.upload_rows _ read.upload_names text.upload_rows_is old new rows h) ∙ unfiltered (tables old).uploads refl

  pub part_rows_found : Serves old × Shown text.part_rows [] old new rows → map part_shown rows ≡ (tables old).parts
  part_rows_found h =
      by_row part_row part_cells 7 (λ _. refl) part_shown old.now.trees (tables old).parts h.0.stores.parts [] read.part_project (lit (Int (negsuc 0))) [] rows (λ _. true)
      (λ _. refl) (λ _. refl) (answer text.part_rows _ read.part_names text.part_rows_is old new rows h) ∙ unfiltered (tables old).parts refl

  pub store_rows_found : Serves old × Shown text.store_rows [] old new rows → map store_shown rows ≡ (tables old).store
  store_rows_found h =
      by_row store_row store_cells 9 (λ _. refl) store_shown old.now.trees (tables old).store h.0.stores.store [] read.store_project (lit (Int (negsuc 0))) [] rows (λ _. true)
      (λ _. refl) (λ _. refl) (answer text.store_rows _ read.store_names text.store_rows_is old new rows h) ∙ unfiltered (tables old).store refl
