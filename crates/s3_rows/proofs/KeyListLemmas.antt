-- The law of lists of keys.
use Rattle.std.proofs.Common.{◌≡◌, refl, sym, ap, ap₂, ◌∙◌, Bool, true, false, cond, ◌&&◌, ℕ, List, [], ◌∷◌, ◌++◌, map, filter, find, flat_map, Option, Some, None, is_some, option_map, Less, is_eq}
use Rattle.std.proofs.lemmas.Bool.{false≢true}
use Rattle.std.specs.Cmp.Lexicographic.{nat_list_cmp_total}
use Rattle.std.specs.FinMap.{entries}
use Rattle.std.specs.List.{AllByRecursion}
use Rattle.sqlite_trees.specs.Tree.{IsAscending}
use Rattle.sqlite_keyed.specs.Lists.{sort_by}
use Rattle.sqlite_keyed.proofs.ListLemmas.{all_weaker, map-map, map_same, filter-map}
use Rattle.sqlite_keyed.proofs.SliceLemmas.{any_is_found}
use Rattle.s3_text.specs.Order.{byte_order}
use Rattle.s3_records.specs.Rows.{held_in, is_from, key_row}
use Rattle.s3_records.specs.declared.rows.KeyRow.{KeyRow}
use Rattle.s3_records.specs.declared.rows.Start.{Start}
use Rattle.s3_rows.specs.Columns.{BucketColumns, VersionColumns}
use Rattle.s3_rows.specs.Encoding.{Encoding}
use Rattle.s3_rows.specs.Finding.{same_text, is_named, is_in, is_under_key, newest_first}
use Rattle.s3_rows.specs.KeyListLaws.{key_listed, keys_listed, RowsListKeys}
use Rattle.s3_rows.specs.Meaning.{version_of, versions_under, keys_in, bucket_of}
use Rattle.s3_rows.specs.VersionListLaws.{by_key_and_number, is_last}
use Rattle.s3_rows.proofs.BucketLemmas.{none_kept, no_rows_in}
use Rattle.s3_rows.proofs.EditLemmas.{find_passes, filter_both}
use Rattle.s3_rows.proofs.GroupedLemmas.{keys_of, group, keys_rise, group_keys, groups_cons, sort_by-groups, entries-groups}
use Rattle.s3_rows.proofs.MeaningLemmas.{is_cons, texts_differ, same_text-itself, same_text-true, get-catalogue}
use Rattle.s3_rows.proofs.SortedLemmas.{sort_by-filter}
use Rattle.s3_rows.proofs.VersionLemmas.{newest_total}
use Rattle.s3_rows.proofs.VersionListLemmas.{by_key_total, filter_groups, none_last}

module _ (e : Encoding) where
  -- behind the first of a key the others are passed over
  passed_over : (k : List ℕ) (ys rest : List VersionColumns) → AllByRecursion (λ y. y.key ≡ k) ys → keys_listed e (Some k) (ys ++ rest) ≡ keys_listed e (Some k) rest
  passed_over k [] rest all = refl
  passed_over k (y ∷ ys) rest all =
      ap (λ q. cond (same_text k q) (keys_listed e (Some q) (ys ++ rest)) (key_listed e y ∷ keys_listed e (Some q) (ys ++ rest))) all.0
      ∙ ap (λ b. cond b (keys_listed e (Some k) (ys ++ rest)) (key_listed e y ∷ keys_listed e (Some k) (ys ++ rest))) (same_text-itself k)
      ∙ passed_over k ys rest all.1

  -- of the groups of keys that rise each tells its key
  told_keys : (G : List ℕ → List VersionColumns) (p : List ℕ → Bool) → ((k : List ℕ) → AllByRecursion (λ y. y.key ≡ k) (G k)) → (ks : List (List ℕ)) (last : Option (List ℕ))
      → AllByRecursion (λ k. is_cons (G k) ≡ true) ks → AllByRecursion (λ k. is_last last k ≡ false) ks → IsAscending (λ a b. byte_order a b ≡ Less) ks
      → keys_listed e last (flat_map (λ k. cond (p k) (G k) []) ks) ≡ map (λ k. key_row (k, map (version_of e) (G k))) (filter p ks)
  told_keys G p its [] last filled apart up = refl
  told_keys G p its (k ∷ ks) last filled apart up =
      go (p k) (G k) refl (its k) filled.0 (told_keys G p its ks last filled.1 apart.1 up.1)
      (told_keys G p its ks (Some k) filled.1 (all_weaker (λ z. byte_order k z ≡ Less) (λ z. same_text k z ≡ false) (λ z less. ap is_eq less) ks up.0) up.1)
    where
      go : (b : Bool) (ys : List VersionColumns) → G k ≡ ys → AllByRecursion (λ y. y.key ≡ k) ys → is_cons ys ≡ true
          → keys_listed e last (flat_map (λ q. cond (p q) (G q) []) ks) ≡ map (λ q. key_row (q, map (version_of e) (G q))) (filter p ks)
          → keys_listed e (Some k) (flat_map (λ q. cond (p q) (G q) []) ks) ≡ map (λ q. key_row (q, map (version_of e) (G q))) (filter p ks)
          → keys_listed e last (cond b ys [] ++ flat_map (λ q. cond (p q) (G q) []) ks) ≡ map (λ q. key_row (q, map (version_of e) (G q))) (cond b (k ∷ filter p ks) (filter p ks))
      go false ys is all some same later = same
      go true [] is all some same later = absurd (false≢true some)
      go true (y ∷ ys) is all some same later =
          ap (λ q. cond (is_last last q) (keys_listed e (Some q) (ys ++ flat_map (λ z. cond (p z) (G z) []) ks)) (key_row (q, version_of e y ∷ []) ∷ keys_listed e (Some q) (ys ++ flat_map (λ z. cond (p z) (G z) []) ks))) all.0
          ∙ ap (λ b. cond b (keys_listed e (Some k) (ys ++ flat_map (λ z. cond (p z) (G z) []) ks)) (key_row (k, version_of e y ∷ []) ∷ keys_listed e (Some k) (ys ++ flat_map (λ z. cond (p z) (G z) []) ks))) apart.0
          ∙ ap₂ ◌∷◌ (sym (ap (λ l. key_row (k, map (version_of e) l)) is)) (passed_over k ys (flat_map (λ z. cond (p z) (G z) []) ks) all.1 ∙ later)

  pub told_sorted : (X : List VersionColumns) (start : Start)
      → keys_listed e None (sort_by by_key_and_number (filter (λ v. is_from start v.key) X))
      ≡ map (λ k. key_row (k, map (version_of e) (group byte_order nat_list_cmp_total texts_differ (λ (v : VersionColumns). v.key) newest_first newest_total X k)))
      (filter (is_from start) (keys_of byte_order nat_list_cmp_total texts_differ (λ (v : VersionColumns). v.key) newest_first newest_total X))
  told_sorted X start =
      let ks = keys_of byte_order nat_list_cmp_total texts_differ (λ (v : VersionColumns). v.key) newest_first newest_total X in
      let its = group byte_order nat_list_cmp_total texts_differ (λ (v : VersionColumns). v.key) newest_first newest_total X in
      let all = group_keys byte_order nat_list_cmp_total texts_differ (λ (v : VersionColumns). v.key) newest_first newest_total X in
      ap (keys_listed e None)
      (sort_by-filter by_key_and_number by_key_total (λ v. is_from start v.key) X
      ∙ ap (filter (λ v. is_from start v.key)) (sort_by-groups byte_order nat_list_cmp_total texts_differ (λ (v : VersionColumns). v.key) newest_first newest_total X)
      ∙ filter_groups (λ (v : VersionColumns). v.key) (is_from start) its all ks)
      ∙ told_keys its (is_from start) all ks None (groups_cons byte_order nat_list_cmp_total texts_differ (λ (v : VersionColumns). v.key) newest_first newest_total X)
      (none_last ks) (keys_rise byte_order nat_list_cmp_total texts_differ (λ (v : VersionColumns). v.key) newest_first newest_total X)

  of_keys : (vs : List VersionColumns) (bucket : List ℕ) (start : Start) → filter (λ (row : KeyRow). is_from start row.key) (map key_row (entries (keys_in e vs bucket)))
      ≡ keys_listed e None (sort_by by_key_and_number (filter (λ v. is_in bucket v && is_from start v.key) vs))
  unfolding keys_in versions_under
  of_keys vs bucket start =
      let X = filter (is_in bucket) vs in
      let ks = keys_of byte_order nat_list_cmp_total texts_differ (λ (v : VersionColumns). v.key) newest_first newest_total X in
      let row = λ (k : List ℕ). key_row (k, versions_under e vs bucket k) in
      ap (λ l. filter (λ (r : KeyRow). is_from start r.key) (map key_row l)) (entries-groups byte_order nat_list_cmp_total texts_differ (λ (v : VersionColumns). v.key) newest_first newest_total (λ k. versions_under e vs bucket k) X)
      ∙ ap (filter (λ (r : KeyRow). is_from start r.key)) (map-map key_row (λ k. (k, versions_under e vs bucket k)) ks)
      ∙ filter-map (λ (r : KeyRow). is_from start r.key) row ks
      ∙ map_same row (λ k. key_row (k, map (version_of e) (group byte_order nat_list_cmp_total texts_differ (λ (v : VersionColumns). v.key) newest_first newest_total X k)))
      (λ k. ap (λ l. key_row (k, map (version_of e) (sort_by newest_first l))) (filter_both (is_in bucket) (is_under_key k) vs)) (filter (is_from start) ks)
      ∙ sym (told_sorted X start)
      ∙ ap (λ l. keys_listed e None (sort_by by_key_and_number l)) (sym (filter_both (is_in bucket) (λ v. is_from start v.key) vs))

pub rows_list_keys : RowsListKeys
rows_list_keys e t bucket start s = ap (λ b. filter (λ (row : KeyRow). is_from start row.key) (map key_row (held_in b))) (get-catalogue e t bucket) ∙ go (find (is_named bucket) t.buckets) refl
  where
    go : (o : Option BucketColumns) → find (is_named bucket) t.buckets ≡ o → filter (λ (row : KeyRow). is_from start row.key) (map key_row (held_in (option_map (bucket_of e t) o)))
        ≡ keys_listed e None (sort_by by_key_and_number (filter (λ v. is_in bucket v && is_from start v.key) t.versions))
    go None none =
        ap (λ l. keys_listed e None (sort_by by_key_and_number l))
        (sym (filter_both (is_in bucket) (λ v. is_from start v.key) t.versions
        ∙ ap (filter (λ v. is_from start v.key)) (none_kept (is_in bucket) t.versions (no_rows_in (λ v. v.bucket) t.buckets t.versions bucket s.version_buckets (any_is_found (is_named bucket) t.buckets ∙ ap is_some none)))))
    go (Some b) found =
        of_keys e t.versions b.name start ∙ ap (λ n. keys_listed e None (sort_by by_key_and_number (filter (λ v. is_in n v && is_from start v.key) t.versions))) (same_text-true b.name bucket (find_passes (is_named bucket) t.buckets b found))
