-- The versions under a key, as rows of versions are put in and taken out.
use Rattle.std.proofs.Common.{◌≡◌, ◌≢◌, refl, sym, ap, ap₂, subst, ◌∙◌, Bool, true, false, not, ◌&&◌, ◌||◌, ◌==◌, nat_lt, ℕ, ℤ, pos, negsuc, List, ◌∷◌, map, filter, find, Some, option_map, Less, int_eq, int_cmp, unsigned_abs, arith}
use Rattle.std.proofs.lemmas.Bool.{false≢true, false_from_ne_true, and_parts, and_left, ltb-true}
use Rattle.std.proofs.lemmas.Int.{ints}
use Rattle.std.proofs.lemmas.Bool.Decides.{nat_tests}
use Rattle.std.specs.Cmp.{IsTotalOrder, int_cmp_total, on_total, back_total}
use Rattle.std.specs.Cmp.Lexicographic.{nat_list_cmp_total}
use Rattle.std.specs.List.{AllByRecursion}
use Rattle.sqlite_keyed.specs.Keyed.{insert_by, has_key}
use Rattle.sqlite_keyed.specs.Lists.{sort_by, delete_where}
use Rattle.sqlite_keyed.proofs.KeyedLemmas.{filter-insert_by, Less-from_lt, same_int}
use Rattle.sqlite_keyed.proofs.ListLemmas.{all_weaker, all_both, all-filter, all_kept, all_from_test, filter-map}
use Rattle.sqlite_keyed.proofs.SliceLemmas.{list_all-map}
use Rattle.s3_names.specs.declared.ids.VersionId.{VersionId}
use Rattle.s3_names.specs.declared.ids.VersionId.TheVariants.{Null, Numbered}
use Rattle.s3_versions.specs.declared.version.Version.{Version}
use Rattle.s3_versions.specs.Rules.{is_under, without, is_new_number, KeyChange, after_change}
use Rattle.s3_records.specs.Catalogue.{versions_at, versioning_in, versioning_of}
use Rattle.s3_records.specs.Changes.{KeyChanged, with_versions, change_in, changed}
use Rattle.s3_records.specs.Merging.{held}
use Rattle.s3_rows.specs.Columns.{BucketColumns, VersionColumns, Tables}
use Rattle.s3_rows.specs.Encoding.{Encoding}
use Rattle.s3_rows.specs.Finding.{same_text, is_named, is_at, id_column, has_id, is_version, newest_first}
use Rattle.s3_rows.specs.Meaning.{version_of, versions_under, keys_in, uploads_in, bucket_of, catalogue_of}
use Rattle.s3_rows.specs.Soundness.{version_row, is_count, has_own_id, is_version_row}
use Rattle.s3_rows.proofs.CollectedLemmas.{is_written, same_by_get}
use Rattle.s3_rows.proofs.EditLemmas.{find_passes, filter_taken, filter_elsewhere, filter_agreeing}
use Rattle.s3_rows.proofs.MeaningLemmas.{texts_differ, same_text-true, get-catalogue, get-keys, versions_at-keys, write_versions, bucket_rewritten}
use Rattle.s3_rows.proofs.SortedLemmas.{all-sort_by, all_unsorted, sort_by-filter, sort_by-insert_by}

pub newest_total : IsTotalOrder newest_first
newest_total = back_total (on_total (λ (v : VersionColumns). v.number) int_cmp_total)

pos_eq : (m n : ℕ) → (m == n) ≡ int_eq (pos m) (pos n)
pos_eq m n = grind (arith, ints, nat_tests)

-- a row has the id under which its version is asked for
id_read : (number id : ℤ) (n : ℕ) → is_count number ≡ true → (int_eq id (negsuc 0) || int_eq id number) ≡ true → (not (int_eq id (negsuc 0)) && (unsigned_abs number == n)) ≡ int_eq id (pos n)
id_read (negsuc m) id n count own = absurd (false≢true count)
id_read (pos m) id n count own = go (int_eq id (negsuc 0)) refl own
  where
    go : (b : Bool) → int_eq id (negsuc 0) ≡ b → (b || int_eq id (pos m)) ≡ true → (not b && (m == n)) ≡ int_eq id (pos n)
    go true is own = subst (λ z. false ≡ int_eq z (pos n)) (sym (same_int id (negsuc 0) is)) refl
    go false is own = pos_eq m n ∙ ap (λ z. int_eq z (pos n)) (sym (same_int id (pos m) own))

pub under_id : (e : Encoding) (id : VersionId) (v : VersionColumns) → is_version_row v ≡ true → has_id (id_column id) v ≡ is_under id (version_of e v)
under_id e Null v fits = refl
under_id e (Numbered n) v fits = let parts = and_parts (is_count v.number) _ fits in sym (id_read v.number v.id n parts.0 (and_parts (has_own_id v) _ parts.1).0)

-- a smaller number is behind
below : (x new : ℤ) (n : ℕ) → is_count x ≡ true → is_count new ≡ true → n ≡ unsigned_abs new → nat_lt (unsigned_abs x) n ≡ true → int_cmp x new ≡ Less
below (pos x) (pos new) n a b is less = let l = ltb-true x n less in Less-from_lt (pos x) (pos new) (omega (arith, ints))
below (negsuc x) new n a b is less = absurd (false≢true a)
below (pos x) (negsuc new) n a b is less = absurd (false≢true b)

-- a row stands at one place
pub at_one_place : (v : VersionColumns) (bucket key b k : List ℕ) → ¬ ((b ≡ bucket) × (k ≡ key)) → is_at b k v ≡ true → is_at bucket key v ≡ false
at_one_place v bucket key b k apart at = false_from_ne_true (is_at bucket key v) (λ other.
    let one = and_parts (same_text v.bucket b) _ at in
    let two = and_parts (same_text v.bucket bucket) _ other in
    apart (sym (same_text-true v.bucket b one.0) ∙ same_text-true v.bucket bucket two.0, sym (same_text-true v.key k one.1) ∙ same_text-true v.key key two.1))

module _ (e : Encoding) where
  -- the version of an id goes, and no other
  pub under_dropped : (vs : List VersionColumns) (bucket key : List ℕ) (id : VersionId) → AllByRecursion (λ v. is_version_row v ≡ true) vs
      → versions_under e (delete_where (is_version bucket key (id_column id)) vs) bucket key ≡ without id (versions_under e vs bucket key)
  unfolding versions_under without
  under_dropped vs bucket key id fit =
      let here = filter (is_at bucket key) vs in
      let all : AllByRecursion (λ v. not (has_id (id_column id) v) ≡ not (is_under id (version_of e v))) (sort_by newest_first here) =
      all-sort_by newest_first newest_total _ here (all_weaker _ (λ v. not (has_id (id_column id) v) ≡ not (is_under id (version_of e v))) (λ v h. ap not (under_id e id v h)) here (all-filter _ (is_at bucket key) vs fit)) in
      ap (λ l. map (version_of e) (sort_by newest_first l)) (filter_taken (is_at bucket key) (has_id (id_column id)) vs)
      ∙ ap (map (version_of e)) (sort_by-filter newest_first newest_total (λ v. not (has_id (id_column id) v)) here)
      ∙ ap (map (version_of e)) (filter_agreeing _ (λ v. not (is_under id (version_of e v))) (sort_by newest_first here) all)
      ∙ sym (filter-map (λ v. not (is_under id v)) (version_of e) (sort_by newest_first here))

  pub elsewhere_dropped : (vs : List VersionColumns) (bucket key : List ℕ) (id : ℤ) (b k : List ℕ) → ¬ ((b ≡ bucket) × (k ≡ key))
      → versions_under e (delete_where (is_version bucket key id) vs) b k ≡ versions_under e vs b k
  unfolding versions_under
  elsewhere_dropped vs bucket key id b k apart =
      ap (λ l. map (version_of e) (sort_by newest_first l))
      (filter_elsewhere (is_at b k) (is_version bucket key id) (λ v at. and_left (is_at bucket key v) _ (at_one_place v bucket key b k apart at)) vs)

  -- the rows under a key have smaller numbers than a new one
  pub numbers_below : (vs : List VersionColumns) (bucket key : List ℕ) (row : VersionColumns) (n : ℕ) → AllByRecursion (λ v. is_version_row v ≡ true) vs → is_count row.number ≡ true
      → n ≡ unsigned_abs row.number → is_new_number n (versions_under e vs bucket key) ≡ true → AllByRecursion (λ v. is_at bucket key v ≡ true → newest_first row v ≡ Less) vs
  unfolding versions_under is_new_number
  numbers_below vs bucket key row n fit count is new =
      let here = filter (is_at bucket key) vs in
      let sorted = all_from_test _ (sort_by newest_first here) (sym (list_all-map (λ (v : Version (List ℕ)). nat_lt v.number n) (version_of e) (sort_by newest_first here)) ∙ new) in
      let each = all_kept (λ v. nat_lt (unsigned_abs v.number) n ≡ true) (is_at bucket key) vs (all_unsorted newest_first newest_total (λ v. nat_lt (unsigned_abs v.number) n ≡ true) here sorted) in
      all_both _ _ (λ v. is_at bucket key v ≡ true → newest_first row v ≡ Less) (λ v fits less at. below v.number row.number n (and_parts (is_count v.number) _ fits).0 count is (less at)) vs fit each

  -- a new version comes first
  pub under_put : (vs : List VersionColumns) (row : VersionColumns) → is_at row.bucket row.key row ≡ true → has_key version_row vs row.row ≡ false → AllByRecursion (λ v. is_at row.bucket row.key v ≡ true → newest_first row v ≡ Less) vs
      → versions_under e (insert_by version_row vs row) row.bucket row.key ≡ version_of e row ∷ versions_under e vs row.bucket row.key
  unfolding versions_under
  under_put vs row at free behind = ap (map (version_of e)) (sort_by-insert_by newest_first newest_total version_row (is_at row.bucket row.key) row at vs free behind)

  pub elsewhere_put : (vs : List VersionColumns) (row : VersionColumns) (b k : List ℕ) → has_key version_row vs row.row ≡ false → is_at b k row ≡ false
      → versions_under e (insert_by version_row vs row) b k ≡ versions_under e vs b k
  unfolding versions_under
  elsewhere_put vs row b k free apart = ap (λ l. map (version_of e) (sort_by newest_first l)) (filter-insert_by version_row (is_at b k) vs row free apart)

  -- the keys of the bucket, of which one changed
  keys_written : (vs ws : List VersionColumns) (name key : List ℕ) (now : List (Version (List ℕ))) → versions_under e ws name key ≡ now
      → ((k : List ℕ) → k ≢ key → versions_under e ws name k ≡ versions_under e vs name k) → keys_in e ws name ≡ with_versions (keys_in e vs name) key now
  keys_written vs ws name key now here there =
      is_written nat_list_cmp_total texts_differ (keys_in e vs name) (keys_in e ws name) key (held now)
      (get-keys e ws name key ∙ ap held here)
      (λ k other. get-keys e ws name k ∙ ap held (there k other) ∙ sym (get-keys e vs name k))
      ∙ write_versions (keys_in e vs name) key now

  keys_kept : (vs ws : List VersionColumns) (name : List ℕ) → ((k : List ℕ) → versions_under e ws name k ≡ versions_under e vs name k) → keys_in e ws name ≡ keys_in e vs name
  keys_kept vs ws name same = same_by_get nat_list_cmp_total texts_differ (keys_in e ws name) (keys_in e vs name) (λ k.
      get-keys e ws name k ∙ ap held (same k) ∙ sym (get-keys e vs name k))

  -- tables of which the versions under one key changed
  pub key_changed : (t : Tables) (ws : List VersionColumns) (name key : List ℕ) (what : KeyChange (List ℕ))
      → versions_under e ws name key ≡ after_change (versioning_of (catalogue_of e t) name) what (versions_under e t.versions name key)
      → ((b k : List ℕ) → ¬ ((b ≡ name) × (k ≡ key)) → versions_under e ws b k ≡ versions_under e t.versions b k)
      → catalogue_of e (record t { versions = ws }) ≡ changed (catalogue_of e t) name (KeyChanged key what)
  key_changed t ws name key what here there =
      bucket_rewritten e t (record t { versions = ws }) name (change_in key what) refl at_name
      (λ b other i. record { made = unsigned_abs b.made; versioning = e.versioning_in b.mode; keys = keys_kept t.versions ws b.name (λ k. there b.name k (λ same. other same.0)) i; uploads = uploads_in e t.uploads t.parts b.name })
    where
      at_name : (b : BucketColumns) → find (is_named name) t.buckets ≡ Some b → bucket_of e (record t { versions = ws }) b ≡ change_in key what (bucket_of e t b)
      at_name b found =
          let named : b.name ≡ name = same_text-true b.name name (find_passes (is_named name) t.buckets b found) in
          let mode : versioning_of (catalogue_of e t) name ≡ e.versioning_in b.mode = ap versioning_in (get-catalogue e t name ∙ ap (option_map (bucket_of e t)) found) in
          let now : versions_under e ws name key ≡ after_change (e.versioning_in b.mode) what (versions_at (keys_in e t.versions name) key) =
          here ∙ ap₂ (λ v vs. after_change v what vs) mode (sym (versions_at-keys e t.versions name key)) in
          let keys : keys_in e ws name ≡ with_versions (keys_in e t.versions name) key (after_change (e.versioning_in b.mode) what (versions_at (keys_in e t.versions name) key)) =
          keys_written t.versions ws name key _ now (λ k other. there name k (λ same. other same.1)) in
          let keys_named : keys_in e ws b.name ≡ with_versions (keys_in e t.versions b.name) key (after_change (e.versioning_in b.mode) what (versions_at (keys_in e t.versions b.name) key)) =
          subst (λ n. keys_in e ws n ≡ with_versions (keys_in e t.versions n) key (after_change (e.versioning_in b.mode) what (versions_at (keys_in e t.versions n) key))) (sym named) keys in
          λ i. record { made = unsigned_abs b.made; versioning = e.versioning_in b.mode; keys = keys_named i; uploads = uploads_in e t.uploads t.parts b.name }
