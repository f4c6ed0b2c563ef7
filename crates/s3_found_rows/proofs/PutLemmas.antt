-- Rows that are put in with rowids above those of the ones that stand.
use Rattle.std.proofs.Common.{◌≡◌, refl, sym, ap, subst, ◌∙◌, ℕ, zero, suc, ℤ, pos, ◌<◌, ◌<ℤ◌, Bool, true, false, not, cond, List, [], ◌∷◌, ◌++◌, length, map, find, Some, is_some, slice_index_or, Equal, int_cmp, int_eq, is_eq, arith}
use Rattle.sqlite_keyed.specs.Keyed.{insert_by, has_key}
use Rattle.s3_rows.specs.Columns.{BucketColumns, VersionColumns, UploadColumns, PartColumns, StoreColumns, Tables, no_rows}
use Rattle.s3_rows.specs.Soundness.{bucket_row, version_row, upload_row, part_row}
use Rattle.s3_rows.proofs.EditLemmas.{same_key}
use Rattle.s3_stored_rows.specs.Changes.{store_row, with_bucket, with_version, with_upload, with_part, with_store, without_row}
use Rattle.s3_stored_rows.specs.declared.rows.TableName.TheVariants.{Store}
use Rattle.s3_found_rows.specs.Order.{IsFilled}
use Rattle.s3_found_rows.proofs.LastLemmas.{less_test, insert_last}

-- the row of the store in the place of the one that stands
pub store_put : (t : Tables) (old new : StoreColumns) (row : ℤ) → old.row ≡ pos 1 → row ≡ pos 1 → t ≡ record no_rows { store = old ∷ [] }
    → with_store new (without_row Store row t) ≡ record no_rows { store = new ∷ [] }
store_put t old new row first is stands =
    ap (λ u. with_store new (without_row Store row u)) stands
    ∙ ap (λ b. record no_rows { store = insert_by store_row (cond (not b) (old ∷ []) []) new }) (same_key old.row row (first ∙ sym is))

module _ (t u w : Tables) (last : ℤ) (same : u ≡ t) where
  pub bucket_put : (fits : BucketColumns → Bool) (x : BucketColumns) → w ≡ with_bucket x u → IsFilled bucket_row last fits t.buckets → last <ℤ x.row → w ≡ record t { buckets = t.buckets ++ x ∷ [] }
  bucket_put fits x put filled less = put ∙ ap (with_bucket x) same ∙ ap (λ xs. record t { buckets = xs }) (insert_last bucket_row fits t.buckets x last filled (less_test last x.row less))

  pub version_put : (fits : VersionColumns → Bool) (x : VersionColumns) → w ≡ with_version x u → IsFilled version_row last fits t.versions → last <ℤ x.row → w ≡ record t { versions = t.versions ++ x ∷ [] }
  version_put fits x put filled less = put ∙ ap (with_version x) same ∙ ap (λ xs. record t { versions = xs }) (insert_last version_row fits t.versions x last filled (less_test last x.row less))

  pub upload_put : (fits : UploadColumns → Bool) (x : UploadColumns) → w ≡ with_upload x u → IsFilled upload_row last fits t.uploads → last <ℤ x.row → w ≡ record t { uploads = t.uploads ++ x ∷ [] }
  upload_put fits x put filled less = put ∙ ap (with_upload x) same ∙ ap (λ xs. record t { uploads = xs }) (insert_last upload_row fits t.uploads x last filled (less_test last x.row less))

  pub part_put : (fits : PartColumns → Bool) (x : PartColumns) → w ≡ with_part x u → IsFilled part_row last fits t.parts → last <ℤ x.row → w ≡ record t { parts = t.parts ++ x ∷ [] }
  part_put fits x put filled less = put ∙ ap (with_part x) same ∙ ap (λ xs. record t { parts = xs }) (insert_last part_row fits t.parts x last filled (less_test last x.row less))

-- a rowid that was searched for among all is that of a row
module _ {X : Type 0} (key : X → ℤ) (row : ℤ) where
  is_at : (us : List X) (i : ℕ) → i < length (map key us) → ((d : ℤ) → int_cmp (slice_index_or (map key us) i d) row ≡ Equal) → has_key key us row ≡ true
  is_at [] i less is = absurd (omega (arith, less))
  is_at (u ∷ us) zero less is = ap (λ b. is_some (cond b (Some u) (find (λ y. int_eq (key y) row) us))) (ap is_eq (is row))
  is_at (u ∷ us) (suc i) less is =
      elim (int_eq (key u) row) as (λ b. is_some (cond b (Some u) (find (λ y. int_eq (key y) row) us)) ≡ true)
      [ true ↦ refl | false ↦ is_at us i (omega (arith, less)) (λ d. is d) ]

  pub is_found : (us : List X) (rows : List ℤ) (i : ℕ) → rows ≡ map key us → i < length rows → ((d : ℤ) → int_cmp (slice_index_or rows i d) row ≡ Equal) → has_key key us row ≡ true
  is_found us rows i same less is =
      is_at us i (subst (λ (l : List ℤ). i < length l) same less) (λ d. ap (λ l. int_cmp (slice_index_or l i d) row) (sym same) ∙ is d)
