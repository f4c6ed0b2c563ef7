-- The law of lists of versions.
use Rattle.std.proofs.Common.{◌≡◌, refl, sym, ap, ap₂, ◌∙◌, Bool, true, false, not, cond, ◌&&◌, ℕ, List, [], ◌∷◌, ◌++◌, map, filter, find, flat_map, Option, Some, None, is_some, option_map, Less, is_eq}
use Rattle.std.specs.Cmp.{IsTotalOrder, on_total, then_total}
use Rattle.std.specs.Cmp.Lexicographic.{nat_list_cmp_total}
use Rattle.std.specs.FinMap.{entries}
use Rattle.std.specs.List.{AllByRecursion}
use Rattle.sqlite_trees.specs.Tree.{IsAscending}
use Rattle.sqlite_keyed.specs.Lists.{sort_by}
use Rattle.sqlite_keyed.proofs.ListLemmas.{all_weaker, flat_map-map, flat_map_same_on}
use Rattle.sqlite_keyed.proofs.SliceLemmas.{any_is_found}
use Rattle.s3_text.specs.Order.{byte_order}
use Rattle.s3_records.specs.Rows.{held_in, is_from, version_row, rows_under, rows_at}
use Rattle.s3_records.specs.declared.rows.Start.{Start}
use Rattle.s3_records.specs.declared.rows.VersionStart.TheVariants.{At}
use Rattle.s3_rows.specs.Columns.{BucketColumns, VersionColumns, Tables}
use Rattle.s3_rows.specs.Encoding.{Encoding}
use Rattle.s3_rows.specs.Finding.{same_text, is_named, is_in, is_under_key, newest_first}
use Rattle.s3_rows.specs.Meaning.{version_of, versions_under, keys_in, bucket_of}
use Rattle.s3_rows.specs.Soundness.{AreSound}
use Rattle.s3_rows.specs.VersionListLaws.{by_key_and_number, is_last, versions_listed, RowsListVersions}
use Rattle.s3_rows.proofs.BucketLemmas.{none_kept, no_rows_in}
use Rattle.s3_rows.proofs.EditLemmas.{find_passes, filter_both}
use Rattle.s3_rows.proofs.GroupedLemmas.{keys_of, group, keys_rise, group_keys, sort_by-groups, entries-groups}
use Rattle.s3_rows.proofs.MeaningLemmas.{texts_differ, same_text-true, get-catalogue, same_text-itself}
use Rattle.s3_rows.proofs.SortedLemmas.{sort_by-filter}
use Rattle.s3_rows.proofs.VersionLemmas.{newest_total}

pub by_key_total : IsTotalOrder by_key_and_number
by_key_total = then_total (on_total (λ (v : VersionColumns). v.key) nat_list_cmp_total) newest_total

-- what is kept of several lists by a test of what all rows of each have
pub filter_groups : {K X : Type 0} (key : X → K) (p : K → Bool) (G : K → List X) → ((k : K) → AllByRecursion (λ y. key y ≡ k) (G k)) → (ks : List K)
    → filter (λ y. p (key y)) (flat_map G ks) ≡ flat_map (λ k. cond (p k) (G k) []) ks
filter_groups key p G its [] = refl
filter_groups {K} {X} key p G its (k ∷ ks) = go (G k) (its k) ∙ ap (λ l. cond (p k) (G k) [] ++ l) (filter_groups key p G its ks)
  where
    go : (ys : List X) → AllByRecursion (λ y. key y ≡ k) ys → filter (λ y. p (key y)) (ys ++ flat_map G ks) ≡ cond (p k) ys [] ++ filter (λ y. p (key y)) (flat_map G ks)
    go [] all = elim (p k) as (λ b. filter (λ y. p (key y)) (flat_map G ks) ≡ cond b [] [] ++ filter (λ y. p (key y)) (flat_map G ks)) [ true ↦ refl | false ↦ refl ]
    go (y ∷ ys) all =
        ap (λ q. cond (p q) (y ∷ filter (λ z. p (key z)) (ys ++ flat_map G ks)) (filter (λ z. p (key z)) (ys ++ flat_map G ks))) all.0
        ∙ ap (λ l. cond (p k) (y ∷ l) l) (go ys all.1)
        ∙ elim (p k) as (λ b. cond b (y ∷ cond b ys [] ++ filter (λ z. p (key z)) (flat_map G ks)) (cond b ys [] ++ filter (λ z. p (key z)) (flat_map G ks)) ≡ cond b (y ∷ ys) [] ++ filter (λ z. p (key z)) (flat_map G ks)) [ true ↦ refl | false ↦ refl ]

-- at the beginning no key was told
pub none_last : (ks : List (List ℕ)) → AllByRecursion (λ k. is_last None k ≡ false) ks
none_last [] = tt
none_last (k ∷ ks) = (refl, none_last ks)

module _ (e : Encoding) where
  -- behind the first of a key the others are told
  told_behind : (k : List ℕ) (ys rest : List VersionColumns) → AllByRecursion (λ y. y.key ≡ k) ys → versions_listed e (Some k) (ys ++ rest) ≡ map (version_row k false) (map (version_of e) ys) ++ versions_listed e (Some k) rest
  told_behind k [] rest all = refl
  told_behind k (y ∷ ys) rest all =
      ap (λ q. version_row q (not (same_text k q)) (version_of e y) ∷ versions_listed e (Some q) (ys ++ rest)) all.0
      ∙ ap₂ ◌∷◌ (ap (λ b. version_row k (not b) (version_of e y)) (same_text-itself k)) (told_behind k ys rest all.1)

  -- the groups of keys that rise are told one after another
  told_groups : (G : List ℕ → List VersionColumns) → ((k : List ℕ) → AllByRecursion (λ y. y.key ≡ k) (G k)) → (ks : List (List ℕ)) (last : Option (List ℕ)) → AllByRecursion (λ k. is_last last k ≡ false) ks
      → IsAscending (λ a b. byte_order a b ≡ Less) ks → versions_listed e last (flat_map G ks) ≡ flat_map (λ k. rows_under k (map (version_of e) (G k))) ks
  told_groups G its [] last apart up = refl
  told_groups G its (k ∷ ks) last apart up =
      go (G k) (its k) (told_groups G its ks last apart.1 up.1)
      (told_groups G its ks (Some k) (all_weaker (λ z. byte_order k z ≡ Less) (λ z. same_text k z ≡ false) (λ z less. ap is_eq less) ks up.0) up.1)
    where
      go : (ys : List VersionColumns) → AllByRecursion (λ y. y.key ≡ k) ys
          → versions_listed e last (flat_map G ks) ≡ flat_map (λ q. rows_under q (map (version_of e) (G q))) ks
          → versions_listed e (Some k) (flat_map G ks) ≡ flat_map (λ q. rows_under q (map (version_of e) (G q))) ks
          → versions_listed e last (ys ++ flat_map G ks) ≡ rows_under k (map (version_of e) ys) ++ flat_map (λ q. rows_under q (map (version_of e) (G q))) ks
      go [] all same later = same
      go (y ∷ ys) all same later =
          ap (λ q. version_row q (not (is_last last q)) (version_of e y) ∷ versions_listed e (Some q) (ys ++ flat_map G ks)) all.0
          ∙ ap₂ ◌∷◌ (ap (λ b. version_row k (not b) (version_of e y)) apart.0)
          (told_behind k ys (flat_map G ks) all.1 ∙ ap (λ l. map (version_row k false) (map (version_of e) ys) ++ l) later)

  module _ (t : Tables) (s : AreSound t) where
    abbrev of_bucket : List ℕ → List VersionColumns
    of_bucket bucket = filter (is_in bucket) t.versions

    abbrev key_of : VersionColumns → List ℕ
    key_of v = v.key

    abbrev all_keys : List ℕ → List (List ℕ)
    all_keys bucket = keys_of byte_order nat_list_cmp_total texts_differ key_of newest_first newest_total (of_bucket bucket)

    abbrev its_rows : List ℕ → List ℕ → List VersionColumns
    its_rows bucket = group byte_order nat_list_cmp_total texts_differ key_of newest_first newest_total (of_bucket bucket)

    abbrev from_rows : Start → List ℕ → List ℕ → List VersionColumns
    from_rows start bucket k = cond (is_from start k) (its_rows bucket k) []

    -- the rows under a key from a place on
    at_key : (start : Start) (bucket k : List ℕ) → rows_at (At start) (k, versions_under e t.versions bucket k) ≡ rows_under k (map (version_of e) (from_rows start bucket k))
    unfolding versions_under
    at_key start bucket k =
        ap (λ l. cond (is_from start k) (rows_under k (map (version_of e) (sort_by newest_first l))) []) (filter_both (is_in bucket) (is_under_key k) t.versions)
        ∙ elim (is_from start k) as (λ b. cond b (rows_under k (map (version_of e) (its_rows bucket k))) [] ≡ rows_under k (map (version_of e) (cond b (its_rows bucket k) []))) [ true ↦ refl | false ↦ refl ]

    from_keys : (start : Start) (bucket k : List ℕ) → AllByRecursion (λ y. y.key ≡ k) (from_rows start bucket k)
    from_keys start bucket k =
        elim (is_from start k) as (λ b. AllByRecursion (λ (y : VersionColumns). y.key ≡ k) (cond b (its_rows bucket k) [])) [
          | true ↦ group_keys byte_order nat_list_cmp_total texts_differ key_of newest_first newest_total (of_bucket bucket) k
          | false ↦ tt
        ]

    of_keys : (start : Start) (bucket : List ℕ) → flat_map (rows_at (At start)) (entries (keys_in e t.versions bucket)) ≡ versions_listed e None (sort_by by_key_and_number (filter (λ v. is_in bucket v && is_from start v.key) t.versions))
    unfolding keys_in
    of_keys start bucket =
        ap (flat_map (rows_at (At start))) (entries-groups byte_order nat_list_cmp_total texts_differ key_of newest_first newest_total (λ k. versions_under e t.versions bucket k) (of_bucket bucket))
        ∙ flat_map-map (rows_at (At start)) (λ k. (k, versions_under e t.versions bucket k)) (all_keys bucket)
        ∙ flat_map_same_on (λ k. rows_at (At start) (k, versions_under e t.versions bucket k)) (λ k. rows_under k (map (version_of e) (from_rows start bucket k))) (at_key start bucket) (all_keys bucket)
        ∙ sym (told_groups (from_rows start bucket) (from_keys start bucket) (all_keys bucket) None (none_last (all_keys bucket))
        (keys_rise byte_order nat_list_cmp_total texts_differ key_of newest_first newest_total (of_bucket bucket)))
        ∙ ap (versions_listed e None)
        (sym (filter_groups key_of (is_from start) (its_rows bucket) (group_keys byte_order nat_list_cmp_total texts_differ key_of newest_first newest_total (of_bucket bucket)) (all_keys bucket))
        ∙ ap (filter (λ v. is_from start v.key)) (sym (sort_by-groups byte_order nat_list_cmp_total texts_differ key_of newest_first newest_total (of_bucket bucket)))
        ∙ sym (sort_by-filter by_key_and_number by_key_total (λ v. is_from start v.key) (of_bucket bucket))
        ∙ ap (sort_by by_key_and_number) (sym (filter_both (is_in bucket) (λ v. is_from start v.key) t.versions)))

    rows_of_bucket : (start : Start) (bucket : List ℕ) (o : Option BucketColumns) → find (is_named bucket) t.buckets ≡ o
        → flat_map (rows_at (At start)) (held_in (option_map (bucket_of e t) o)) ≡ versions_listed e None (sort_by by_key_and_number (filter (λ v. is_in bucket v && is_from start v.key) t.versions))
    rows_of_bucket start bucket None none =
        ap (λ l. versions_listed e None (sort_by by_key_and_number l))
        (sym (filter_both (is_in bucket) (λ v. is_from start v.key) t.versions
        ∙ ap (filter (λ v. is_from start v.key)) (none_kept (is_in bucket) t.versions (no_rows_in (λ v. v.bucket) t.buckets t.versions bucket s.version_buckets (any_is_found (is_named bucket) t.buckets ∙ ap is_some none)))))
    rows_of_bucket start bucket (Some b) found =
        of_keys start b.name ∙ ap (λ n. versions_listed e None (sort_by by_key_and_number (filter (λ v. is_in n v && is_from start v.key) t.versions))) (same_text-true b.name bucket (find_passes (is_named bucket) t.buckets b found))

pub rows_list_versions : RowsListVersions
rows_list_versions e t bucket start s = ap (λ b. flat_map (rows_at (At start)) (held_in b)) (get-catalogue e t bucket) ∙ rows_of_bucket e t s start bucket (find (is_named bucket) t.buckets) refl
