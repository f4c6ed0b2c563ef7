-- What each query finds.
use Rattle.std.proofs.Common.{◌≡◌, ℕ, ℤ, pos, negsuc, ◌&&◌, Bool, true, false, List, [], ◌∷◌, map, filter, slice_get, option_map, is_some, codes, refl, ap, ◌∙◌, Ordering, Less, Equal, Greater}
use Rattle.std.specs.Prelude.{take, int_lt}
use Rattle.std.specs.Ordering.{ordering_then, int_cmp, int_eq}
use Rattle.sqlite_typed.specs.Tests.{bytes_cmp, bytes_eq}
use Rattle.sqlite.specs.declared.types.Value.TheVariants.{Null, Int, Blob}
use Rattle.sqlite_sql.specs.declared.ops.CompareOp.TheVariants.{Eq, Lt, Gt, Ge}
use Rattle.sqlite.specs.Order.{Row}
use Rattle.sqlite.specs.Query.{Query, IsAnswer}
use Rattle.sqlite.specs.Program.{overlay}
use Rattle.sqlite.specs.Term.{lit, col}
use Rattle.sqlite.specs.State.{State, Shown}
use Rattle.sqlite.proofs.Callers.{reads_as}
use Rattle.sqlite_typed.proofs.AnswerLemmas.{unfiltered}
use Rattle.sqlite_typed.proofs.TestLemmas.{at_blobs, at_ints, then_term, last_term, then_key, last_key}
use Rattle.sqlite_value.proofs.OrderLemmas.{value_cmp-Int, value_cmp-Blob}
use Rattle.sqlite_keyed.specs.Lists.{sort_by}
use Rattle.s3_tables.specs.Schema.{schema}
use Rattle.s3_rows.specs.Columns.{VersionColumns, UploadColumns, PartColumns}
use Rattle.s3_rows.specs.Finding.{is_named, is_in, is_at, is_version, newest_first, is_upload_in, is_upload_to, is_upload, is_sent_to, is_part, by_part}
use Rattle.s3_rows.specs.ReadingLaws.{by_name}
use Rattle.s3_rows.specs.ListLaws.{by_id, by_key_and_id}
use Rattle.s3_rows.specs.VersionListLaws.{by_key_and_number}
use Rattle.s3_rows.specs.Soundness.{bucket_row, version_row, upload_row, part_row}
use Rattle.s3_stored_rows.specs.Changes.{store_row}
use Rattle.s3_tables.specs.Stored.{bucket_cells, version_cells, upload_cells, part_cells, store_cells}
use Rattle.s3_tables.specs.Keeping.{tables, Serves}
use Rattle.s3_stored_rows.specs.Queries as spec
use Rattle.s3_tables.specs.Reading.{bucket_shown, version_shown, upload_shown, part_shown, store_shown}
use Rattle.s3_tables.proofs.ReadTexts as text
use Rattle.s3_tables.proofs.ReadTexts.{Asks}
use Rattle.s3_tables.proofs.Resolving.{is_understood}
use Rattle.s3_tables.proofs.AnswerLemmas.{by_row, by_order, any_found, one_found, first_one}

-- which rows a query asks for
abbrev is_from : List ℕ → List ℕ → VersionColumns → Bool
is_from bucket key v = is_in bucket v && spec.is_key_from key v.key

abbrev is_behind : List ℕ → List ℕ → VersionColumns → Bool
is_behind bucket key v = is_in bucket v && spec.is_key_behind key v.key

abbrev is_upload_from : List ℕ → List ℕ → UploadColumns → Bool
is_upload_from bucket key u = is_upload_in bucket u && spec.is_key_from key u.key

abbrev is_upload_behind : List ℕ → List ℕ → UploadColumns → Bool
is_upload_behind bucket key u = is_upload_in bucket u && spec.is_key_behind key u.key

abbrev is_upload_above : List ℕ → List ℕ → ℤ → UploadColumns → Bool
is_upload_above bucket key id u = is_upload_to bucket key u && int_lt id u.id

abbrev is_part_above : ℤ → ℤ → PartColumns → Bool
is_part_above upload part p = is_sent_to upload p && int_lt part p.part

and_joined : (a b c : Bool) → (a && (b && c)) ≡ ((a && b) && c)
and_joined true b c = refl
and_joined false b c = refl

then_joined : (a b c : Ordering) → ordering_then a (ordering_then b c) ≡ ordering_then (ordering_then a b) c
then_joined Less b c = refl
then_joined Equal b c = refl
then_joined Greater b c = refl

answer : (sql : List ℕ) (q : Query) (names : List (List ℕ)) → Asks sql q names → (params : Row) (old new : State) (rows : List Row) → Serves old × Shown sql params old new rows → IsAnswer q (overlay old.now.trees []) params rows
answer sql q names asks params old new rows h =
    let it = is_understood schema sql _ asks in
    (reads_as sql params old new schema h.0.schema_is _ it.0 it.1 it.2 rows h.1).answer Null

module _ (old new : State) (rows : List Row) where
  pub bucket_by_name_found : (name : List ℕ) → Serves old × Shown text.bucket_by_name (Blob name ∷ []) old new rows → option_map bucket_shown (slice_get rows 0) ≡ spec.bucket_named name (tables old)
  bucket_by_name_found name h =
      one_found bucket_shown (is_named name) (tables old).buckets rows
      (by_row bucket_row bucket_cells 0 (λ _. refl) bucket_shown old.now.trees (tables old).buckets h.0.stores.buckets text.bucket_by_name_tests text.bucket_project (lit (Int (pos 1))) (Blob name ∷ []) rows (is_named name)
      (λ x. last_term (at_blobs false Eq x.name name)) (λ _. refl) (answer text.bucket_by_name _ text.bucket_names text.bucket_by_name_is (Blob name ∷ []) old new rows h))

  pub all_buckets_found : Serves old × Shown text.all_buckets ([]) old new rows → map bucket_shown rows ≡ spec.buckets_by_name (tables old)
  all_buckets_found h =
      (by_order bucket_row bucket_cells 0 (λ _. refl) bucket_shown old.now.trees (tables old).buckets h.0.stores.buckets text.all_buckets_tests text.bucket_project (lit (Int (negsuc 0))) ([]) rows (λ _. true)
      (λ _. refl) (λ _. refl) text.all_buckets_order by_name (λ a b. then_key (value_cmp-Blob a.name b.name) (last_key (value_cmp-Int a.row b.row))) (answer text.all_buckets _ text.bucket_names text.all_buckets_is ([]) old new rows h)) ∙ ap (sort_by by_name) (unfiltered (tables old).buckets refl)

  pub newest_found : (bucket : List ℕ) (key : List ℕ) → Serves old × Shown text.newest (Blob bucket ∷ Blob key ∷ []) old new rows → option_map version_shown (slice_get rows 0) ≡ spec.newest_version bucket key (tables old)
  newest_found bucket key h =
      first_one version_shown (sort_by newest_first (filter (is_at bucket key) (tables old).versions)) rows
      (by_order version_row version_cells 2 (λ _. refl) version_shown old.now.trees (tables old).versions h.0.stores.versions text.newest_tests text.version_project (lit (Int (pos 1))) (Blob bucket ∷ Blob key ∷ []) rows (is_at bucket key)
      (λ x. then_term (at_blobs false Eq x.bucket bucket) (last_term (at_blobs false Eq x.key key))) (λ _. refl) text.newest_order newest_first (λ a b. then_key (value_cmp-Int b.number a.number) (last_key (value_cmp-Int a.row b.row))) (answer text.newest _ text.version_names text.newest_is (Blob bucket ∷ Blob key ∷ []) old new rows h))

  pub version_by_id_found : (bucket : List ℕ) (key : List ℕ) (id : ℤ) → Serves old × Shown text.version_by_id (Blob bucket ∷ Blob key ∷ Int id ∷ []) old new rows → option_map version_shown (slice_get rows 0) ≡ spec.version_of_id bucket key id (tables old)
  version_by_id_found bucket key id h =
      one_found version_shown (is_version bucket key id) (tables old).versions rows
      (by_row version_row version_cells 2 (λ _. refl) version_shown old.now.trees (tables old).versions h.0.stores.versions text.version_by_id_tests text.version_project (lit (Int (pos 1))) (Blob bucket ∷ Blob key ∷ Int id ∷ []) rows (is_version bucket key id)
      (λ x. then_term (at_blobs false Eq x.bucket bucket) (then_term (at_blobs false Eq x.key key) (last_term (at_ints false Eq x.id id))) ∙ and_joined (bytes_eq x.bucket bucket) (bytes_eq x.key key) (int_eq x.id id)) (λ _. refl) (answer text.version_by_id _ text.version_names text.version_by_id_is (Blob bucket ∷ Blob key ∷ Int id ∷ []) old new rows h))

  pub older_found : (bucket : List ℕ) (key : List ℕ) (number : ℤ) (most : ℕ) → Serves old × Shown text.older (Blob bucket ∷ Blob key ∷ Int number ∷ Int (pos most) ∷ []) old new rows → map version_shown rows ≡ take most (spec.versions_below bucket key number (tables old))
  older_found bucket key number most h =
      (by_order version_row version_cells 2 (λ _. refl) version_shown old.now.trees (tables old).versions h.0.stores.versions text.older_tests text.version_project (col 0 3) (Blob bucket ∷ Blob key ∷ Int number ∷ Int (pos most) ∷ []) rows (spec.is_below bucket key number)
      (λ x. then_term (at_blobs false Eq x.bucket bucket) (then_term (at_blobs false Eq x.key key) (last_term (at_ints false Lt x.number number))) ∙ and_joined (bytes_eq x.bucket bucket) (bytes_eq x.key key) (int_lt x.number number)) (λ _. refl) text.older_order newest_first (λ a b. then_key (value_cmp-Int b.number a.number) (last_key (value_cmp-Int a.row b.row))) (answer text.older _ text.version_names text.older_is (Blob bucket ∷ Blob key ∷ Int number ∷ Int (pos most) ∷ []) old new rows h))

  pub versions_on_found : (bucket : List ℕ) (key : List ℕ) (most : ℕ) → Serves old × Shown text.versions_on (Blob bucket ∷ Blob key ∷ Int (pos most) ∷ []) old new rows → map version_shown rows ≡ take most (spec.versions_from bucket key (tables old))
  versions_on_found bucket key most h =
      (by_order version_row version_cells 2 (λ _. refl) version_shown old.now.trees (tables old).versions h.0.stores.versions text.versions_on_tests text.version_project (col 0 2) (Blob bucket ∷ Blob key ∷ Int (pos most) ∷ []) rows (is_from bucket key)
      (λ x. then_term (at_blobs false Eq x.bucket bucket) (last_term (at_blobs false Ge x.key key))) (λ _. refl) text.versions_on_order by_key_and_number (λ a b. then_key (value_cmp-Blob a.key b.key) (then_key (value_cmp-Int b.number a.number) (last_key (value_cmp-Int a.row b.row))) ∙ then_joined (bytes_cmp a.key b.key) (int_cmp b.number a.number) (int_cmp a.row b.row)) (answer text.versions_on _ text.version_names text.versions_on_is (Blob bucket ∷ Blob key ∷ Int (pos most) ∷ []) old new rows h))

  pub versions_past_found : (bucket : List ℕ) (key : List ℕ) (most : ℕ) → Serves old × Shown text.versions_past (Blob bucket ∷ Blob key ∷ Int (pos most) ∷ []) old new rows → map version_shown rows ≡ take most (spec.versions_behind bucket key (tables old))
  versions_past_found bucket key most h =
      (by_order version_row version_cells 2 (λ _. refl) version_shown old.now.trees (tables old).versions h.0.stores.versions text.versions_past_tests text.version_project (col 0 2) (Blob bucket ∷ Blob key ∷ Int (pos most) ∷ []) rows (is_behind bucket key)
      (λ x. then_term (at_blobs false Eq x.bucket bucket) (last_term (at_blobs false Gt x.key key))) (λ _. refl) text.versions_past_order by_key_and_number (λ a b. then_key (value_cmp-Blob a.key b.key) (then_key (value_cmp-Int b.number a.number) (last_key (value_cmp-Int a.row b.row))) ∙ then_joined (bytes_cmp a.key b.key) (int_cmp b.number a.number) (int_cmp a.row b.row)) (answer text.versions_past _ text.version_names text.versions_past_is (Blob bucket ∷ Blob key ∷ Int (pos most) ∷ []) old new rows h))

  pub upload_by_id_found : (bucket : List ℕ) (key : List ℕ) (id : ℤ) → Serves old × Shown text.upload_by_id (Blob bucket ∷ Blob key ∷ Int id ∷ []) old new rows → option_map upload_shown (slice_get rows 0) ≡ spec.upload_of_id bucket key id (tables old)
  upload_by_id_found bucket key id h =
      one_found upload_shown (is_upload bucket key id) (tables old).uploads rows
      (by_row upload_row upload_cells 5 (λ _. refl) upload_shown old.now.trees (tables old).uploads h.0.stores.uploads text.upload_by_id_tests text.upload_project (lit (Int (pos 1))) (Blob bucket ∷ Blob key ∷ Int id ∷ []) rows (is_upload bucket key id)
      (λ x. then_term (at_blobs false Eq x.bucket bucket) (then_term (at_blobs false Eq x.key key) (last_term (at_ints false Eq x.id id))) ∙ and_joined (bytes_eq x.bucket bucket) (bytes_eq x.key key) (int_eq x.id id)) (λ _. refl) (answer text.upload_by_id _ text.upload_names text.upload_by_id_is (Blob bucket ∷ Blob key ∷ Int id ∷ []) old new rows h))

  pub uploads_on_found : (bucket : List ℕ) (key : List ℕ) (most : ℕ) → Serves old × Shown text.uploads_on (Blob bucket ∷ Blob key ∷ Int (pos most) ∷ []) old new rows → map upload_shown rows ≡ take most (spec.uploads_from bucket key (tables old))
  uploads_on_found bucket key most h =
      (by_order upload_row upload_cells 5 (λ _. refl) upload_shown old.now.trees (tables old).uploads h.0.stores.uploads text.uploads_on_tests text.upload_project (col 0 2) (Blob bucket ∷ Blob key ∷ Int (pos most) ∷ []) rows (is_upload_from bucket key)
      (λ x. then_term (at_blobs false Eq x.bucket bucket) (last_term (at_blobs false Ge x.key key))) (λ _. refl) text.uploads_on_order by_key_and_id (λ a b. then_key (value_cmp-Blob a.key b.key) (then_key (value_cmp-Int a.id b.id) (last_key (value_cmp-Int a.row b.row))) ∙ then_joined (bytes_cmp a.key b.key) (int_cmp a.id b.id) (int_cmp a.row b.row)) (answer text.uploads_on _ text.upload_names text.uploads_on_is (Blob bucket ∷ Blob key ∷ Int (pos most) ∷ []) old new rows h))

  pub uploads_past_found : (bucket : List ℕ) (key : List ℕ) (most : ℕ) → Serves old × Shown text.uploads_past (Blob bucket ∷ Blob key ∷ Int (pos most) ∷ []) old new rows → map upload_shown rows ≡ take most (spec.uploads_behind bucket key (tables old))
  uploads_past_found bucket key most h =
      (by_order upload_row upload_cells 5 (λ _. refl) upload_shown old.now.trees (tables old).uploads h.0.stores.uploads text.uploads_past_tests text.upload_project (col 0 2) (Blob bucket ∷ Blob key ∷ Int (pos most) ∷ []) rows (is_upload_behind bucket key)
      (λ x. then_term (at_blobs false Eq x.bucket bucket) (last_term (at_blobs false Gt x.key key))) (λ _. refl) text.uploads_past_order by_key_and_id (λ a b. then_key (value_cmp-Blob a.key b.key) (then_key (value_cmp-Int a.id b.id) (last_key (value_cmp-Int a.row b.row))) ∙ then_joined (bytes_cmp a.key b.key) (int_cmp a.id b.id) (int_cmp a.row b.row)) (answer text.uploads_past _ text.upload_names text.uploads_past_is (Blob bucket ∷ Blob key ∷ Int (pos most) ∷ []) old new rows h))

  pub later_uploads_found : (bucket : List ℕ) (key : List ℕ) (id : ℤ) (most : ℕ) → Serves old × Shown text.later_uploads (Blob bucket ∷ Blob key ∷ Int id ∷ Int (pos most) ∷ []) old new rows → map upload_shown rows ≡ take most (spec.uploads_above bucket key id (tables old))
  later_uploads_found bucket key id most h =
      (by_order upload_row upload_cells 5 (λ _. refl) upload_shown old.now.trees (tables old).uploads h.0.stores.uploads text.later_uploads_tests text.upload_project (col 0 3) (Blob bucket ∷ Blob key ∷ Int id ∷ Int (pos most) ∷ []) rows (is_upload_above bucket key id)
      (λ x. then_term (at_blobs false Eq x.bucket bucket) (then_term (at_blobs false Eq x.key key) (last_term (at_ints false Gt x.id id))) ∙ and_joined (bytes_eq x.bucket bucket) (bytes_eq x.key key) (int_lt id x.id)) (λ _. refl) text.later_uploads_order by_id (λ a b. then_key (value_cmp-Int a.id b.id) (last_key (value_cmp-Int a.row b.row))) (answer text.later_uploads _ text.upload_names text.later_uploads_is (Blob bucket ∷ Blob key ∷ Int id ∷ Int (pos most) ∷ []) old new rows h))

  pub part_by_number_found : (upload : ℤ) (part : ℤ) → Serves old × Shown text.part_by_number (Int upload ∷ Int part ∷ []) old new rows → option_map part_shown (slice_get rows 0) ≡ spec.part_of_number upload part (tables old)
  part_by_number_found upload part h =
      one_found part_shown (is_part upload part) (tables old).parts rows
      (by_row part_row part_cells 7 (λ _. refl) part_shown old.now.trees (tables old).parts h.0.stores.parts text.part_by_number_tests text.part_project (lit (Int (pos 1))) (Int upload ∷ Int part ∷ []) rows (is_part upload part)
      (λ x. then_term (at_ints false Eq x.upload upload) (last_term (at_ints false Eq x.part part))) (λ _. refl) (answer text.part_by_number _ text.part_names text.part_by_number_is (Int upload ∷ Int part ∷ []) old new rows h))

  pub later_parts_found : (upload : ℤ) (part : ℤ) (most : ℕ) → Serves old × Shown text.later_parts (Int upload ∷ Int part ∷ Int (pos most) ∷ []) old new rows → map part_shown rows ≡ take most (spec.parts_above upload part (tables old))
  later_parts_found upload part most h =
      (by_order part_row part_cells 7 (λ _. refl) part_shown old.now.trees (tables old).parts h.0.stores.parts text.later_parts_tests text.part_project (col 0 2) (Int upload ∷ Int part ∷ Int (pos most) ∷ []) rows (is_part_above upload part)
      (λ x. then_term (at_ints false Eq x.upload upload) (last_term (at_ints false Gt x.part part))) (λ _. refl) text.later_parts_order by_part (λ a b. then_key (value_cmp-Int a.part b.part) (last_key (value_cmp-Int a.row b.row))) (answer text.later_parts _ text.part_names text.later_parts_is (Int upload ∷ Int part ∷ Int (pos most) ∷ []) old new rows h))

  pub the_store_found : Serves old × Shown text.the_store ([]) old new rows → option_map store_shown (slice_get rows 0) ≡ slice_get (tables old).store 0
  the_store_found h =
      first_one store_shown (tables old).store rows
      ((by_row store_row store_cells 9 (λ _. refl) store_shown old.now.trees (tables old).store h.0.stores.store text.the_store_tests text.store_project (lit (Int (pos 1))) ([]) rows (λ _. true)
      (λ _. refl) (λ _. refl) (answer text.the_store _ text.store_names text.the_store_is ([]) old new rows h)) ∙ ap (take 1) (unfiltered (tables old).store refl))

  pub any_version_found : (bucket : List ℕ) → Serves old × Shown text.any_version (Blob bucket ∷ []) old new rows → is_some (slice_get rows 0) ≡ spec.has_versions bucket (tables old)
  any_version_found bucket h =
      any_found version_row version_cells 2 (λ _. refl) version_shown old.now.trees (tables old).versions h.0.stores.versions text.any_version_tests (col 1 0 ∷ []) (Blob bucket ∷ []) rows (is_in bucket)
      (λ x. last_term (at_blobs false Eq x.bucket bucket)) (answer text.any_version _ (codes "row" ∷ []) text.any_version_is (Blob bucket ∷ []) old new rows h)

  pub any_upload_found : (bucket : List ℕ) → Serves old × Shown text.any_upload (Blob bucket ∷ []) old new rows → is_some (slice_get rows 0) ≡ spec.has_uploads bucket (tables old)
  any_upload_found bucket h =
      any_found upload_row upload_cells 5 (λ _. refl) upload_shown old.now.trees (tables old).uploads h.0.stores.uploads text.any_upload_tests (col 1 0 ∷ []) (Blob bucket ∷ []) rows (is_upload_in bucket)
      (λ x. last_term (at_blobs false Eq x.bucket bucket)) (answer text.any_upload _ (codes "row" ∷ []) text.any_upload_is (Blob bucket ∷ []) old new rows h)
