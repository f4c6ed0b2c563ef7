-- The catalogue that sound rows are: each key's versions and each upload's parts are in their order, and no key is without.
use Rattle.std.proofs.Common.{◌≡◌, ◌≢◌, refl, sym, ap, subst, ◌∙◌, ℕ, ℤ, pos, negsuc, Bool, true, false, not, ◌&&◌, ◌==◌, cond, T, List, [], ◌∷◌, filter, find, map, Option, Some, None, option_map, is_gt, unsigned_abs, int_lt, int_eq, int_cmp, nat_lt, Less, arith}
use Rattle.std.proofs.lemmas.Bool.{false≢true, and_parts, and_from}
use Rattle.std.proofs.lemmas.Bool.Decides.{nat_tests}
use Rattle.std.proofs.lemmas.Int.{ints}
use Rattle.std.proofs.lemmas.List.Elements.{recursion_from_All}
use Rattle.std.proofs.lemmas.Option.{none-some, same_Some}
use Rattle.std.specs.FinMap.{get, empty, len, len-empty, entries_sorted}
use Rattle.std.specs.FinMap.Entries.{is_sorted, below_all}
use Rattle.std.specs.List.{AllByRecursion, list_all}
use Rattle.std.specs.Map.{keys_of}
use Rattle.std.specs.Ordering.{nat_cmp, is_lt}
use Rattle.std.specs.Prelude.{IsTrue}
use Rattle.sqlite_keyed.specs.Lists.{insert_sorted, sort_by}
use Rattle.sqlite_keyed.proofs.KeyedLemmas.{same_int}
use Rattle.sqlite_keyed.proofs.ListLemmas.{all_weaker, all_both, all-filter, ascending-filter, test_from_all}
use Rattle.sqlite_keyed.proofs.SliceLemmas.{list_all-map}
use Rattle.sqlite_trees.specs.Tree.{IsAscending}
use Rattle.s3_versions.specs.declared.version.Version.{Version}
use Rattle.s3_versions.specs.Rules.{may_precede, are_versions}
use Rattle.s3_uploads.specs.Parts.{rises, numbers_of}
use Rattle.s3_uploads.specs.declared.part.Part.{Part}
use Rattle.s3_uploads.specs.declared.upload.Upload.{Upload}
use Rattle.s3_records.specs.Catalogue.{Bucket, KeyUploads}
use Rattle.s3_records.specs.Laws.{AreCatalogued, AreFilled}
use Rattle.s3_records.specs.Merging.{held}
use Rattle.s3_records.specs.OpenUploads.{parts_sent}
use Rattle.s3_records.proofs.RowLemmas.{is_true, first_of, second_of, is_less}
use Rattle.s3_keepers.specs.Sound.{PartsRise}
use Rattle.s3_rows.specs.Columns.{BucketColumns, VersionColumns, UploadColumns, Tables}
use Rattle.s3_rows.specs.Encoding.{Encoding}
use Rattle.s3_rows.specs.Finding.{is_named, is_in, is_at, is_under_key, newest_first, is_upload}
use Rattle.s3_rows.specs.Meaning.{version_of, versions_under, parts_of, upload_of, uploads_to, bucket_of, catalogue_of}
use Rattle.s3_rows.specs.Soundness.{same_number, same_version, is_count, is_version_row, AreSound}
use Rattle.s3_rows.proofs.MeaningLemmas.{same_text-true, get-catalogue, get-keys, get-uploads, filled}
use Rattle.s3_rows.proofs.ReadingLemmas.{rows_tell_versions, rows_tell_upload, ascending_among}
use Rattle.s3_rows.proofs.SortedLemmas.{all_passing, all-sort_by}
use Rattle.s3_rows.proofs.VersionLemmas.{newest_total}

-- ---- the versions of a key

-- two rows have different numbers, and not both are `null`
record Differ (a b : VersionColumns) : Type 0 where
  numbers : int_eq a.number b.number ≡ false
  nulls : (int_eq a.id (negsuc 0) && int_eq b.id (negsuc 0)) ≡ false

-- one of them may stand before the other
record Before (a b : VersionColumns) : Type 0 where
  newer : int_lt b.number a.number ≡ true
  nulls : (int_eq a.id (negsuc 0) && int_eq b.id (negsuc 0)) ≡ false

is_newer : (a b : ℤ) → int_eq a b ≡ false → is_gt (int_cmp b a) ≡ false → int_lt b a ≡ true
is_newer a b differ order = grind (arith, ints)

is_older : (a b : ℤ) → is_gt (int_cmp b a) ≡ true → int_lt a b ≡ true
is_older a b order = grind (arith, ints)

newer_on : (a b c : ℤ) → int_lt b a ≡ true → int_lt c b ≡ true → int_lt c a ≡ true
newer_on a b c one two = grind (arith, ints)

turned : (p q : Bool) → (p && q) ≡ false → (q && p) ≡ false
turned true true is = is
turned true false is = refl
turned false true is = refl
turned false false is = refl

all_inserted : (P : VersionColumns → Type 0) (v : VersionColumns) (vs : List VersionColumns) → P v → AllByRecursion P vs
    → AllByRecursion P (insert_sorted newest_first v vs)
all_inserted P v [] here all = (here, tt)
all_inserted P v (w ∷ vs) here all =
    elim (is_gt (newest_first v w)) as (λ b. AllByRecursion P (cond b (w ∷ insert_sorted newest_first v vs) (v ∷ w ∷ vs))) [
      | true ↦ (all.0, all_inserted P v vs here all.1)
      | false ↦ (here, all)
    ]

before_inserted : (v : VersionColumns) (vs : List VersionColumns) → AllByRecursion (Differ v) vs → IsAscending Before vs
    → IsAscending Before (insert_sorted newest_first v vs)
before_inserted v [] differ up = (tt, tt)
before_inserted v (w ∷ vs) differ up = go (is_gt (newest_first v w)) refl (before_inserted v vs differ.1 up.1)
  where
    go : (b : Bool) → is_gt (newest_first v w) ≡ b → IsAscending Before (insert_sorted newest_first v vs)
        → IsAscending Before (cond b (w ∷ insert_sorted newest_first v vs) (v ∷ w ∷ vs))
    go true is more =
        let nulls = turned (int_eq v.id (negsuc 0)) (int_eq w.id (negsuc 0)) differ.0.nulls in
        (all_inserted (Before w) v vs (record { newer = is_older v.number w.number is; nulls = nulls }) up.0, more)
    go false is more =
        let newer = is_newer v.number w.number differ.0.numbers is in (
          (
            record { newer = newer; nulls = differ.0.nulls },
            all_both (Before w) (Differ v) (Before v)
                (λ x one two. record { newer = newer_on v.number w.number x.number newer one.newer; nulls = two.nulls }) vs up.0 differ.1,
          ),
          up,
        )

-- rows that differ stand so when they are sorted
before_sorted : (vs : List VersionColumns) → IsAscending Differ vs → IsAscending Before (sort_by newest_first vs)
before_sorted [] differ = tt
before_sorted (v ∷ vs) differ =
    before_inserted v _ (all-sort_by newest_first newest_total (Differ v) vs differ.0) (before_sorted vs differ.1)

counts_newer : (a b : ℤ) → is_count a ≡ true → int_lt a b ≡ true → nat_lt (unsigned_abs a) (unsigned_abs b) ≡ true
counts_newer a b count less = grind (arith, ints)

-- rows that stand so are versions of one key
in_order : (e : Encoding) (vs : List VersionColumns) → AllByRecursion (λ v. is_count v.number ≡ true) vs
    → IsAscending Before vs → are_versions (map (version_of e) vs) ≡ true
unfolding are_versions
in_order e [] counts up = refl
in_order e (v ∷ vs) counts up =
    and_from _ _
    (list_all-map (may_precede (version_of e v)) (version_of e) vs
    ∙ test_from_all (λ w. may_precede (version_of e v) (version_of e w)) vs
    (all_both (λ w. is_count w.number ≡ true) (Before v) (λ w. may_precede (version_of e v) (version_of e w) ≡ true)
    (λ w count before. and_from _ _ (counts_newer w.number v.number count before.newer) (ap not before.nulls)) vs counts.1 up.0))
    (in_order e vs counts.1 up.1)

at_same : (name key : List ℕ) (a b : VersionColumns) → is_at name key a ≡ true → is_at name key b ≡ true
    → is_at b.bucket b.key a ≡ true
at_same name key a b one two =
    let places = and_parts (is_in name b) (is_under_key key b) two in
    subst (λ n. is_at n b.key a ≡ true) (sym (same_text-true b.bucket name places.0))
    (subst (λ k. is_at name k a ≡ true) (sym (same_text-true b.key key places.1)) one)

second_false : (p q : Bool) → p ≡ true → (p && q) ≡ false → q ≡ false
second_false true q is none = none
second_false false q is none = absurd (false≢true is)

not_both : (a b : ℤ) → int_eq a b ≡ false → (int_eq a (negsuc 0) && int_eq b (negsuc 0)) ≡ false
not_both a b differ = go (int_eq a (negsuc 0)) (int_eq b (negsuc 0)) refl refl
  where
    go : (p q : Bool) → int_eq a (negsuc 0) ≡ p → int_eq b (negsuc 0) ≡ q → (p && q) ≡ false
    go true true one two =
        absurd (false≢true (sym differ ∙ ap (λ z. int_eq z b) (same_int a (negsuc 0) one)
        ∙ ap (λ z. int_eq (negsuc 0) z) (same_int b (negsuc 0) two)))
    go true false one two = refl
    go false q one two = refl

both_ascend : {X : Type 0} (R S Q : X → X → Type 0) → ((a b : X) → R a b → S a b → Q a b) → (xs : List X) → IsAscending R xs
    → IsAscending S xs → IsAscending Q xs
both_ascend R S Q so [] one two = tt
both_ascend R S Q so (x ∷ xs) one two = (all_both (R x) (S x) (Q x) (so x) xs one.0 two.0, both_ascend R S Q so xs one.1 two.1)

module _ (e : Encoding) (t : Tables) (s : AreSound t) where
  -- the rows under a key
  differ_here : (name key : List ℕ) → IsAscending Differ (filter (is_at name key) t.versions)
  differ_here name key =
      let here = filter (is_at name key) t.versions in
      let all : AllByRecursion (λ v. is_at name key v ≡ true) here =
      all_passing (λ v. is_at name key v ≡ true) (is_at name key) t.versions
      (all_weaker (λ v. is_version_row v ≡ true) (λ v. is_at name key v ≡ true
      → is_at name key v ≡ true) (λ v fit is. is) t.versions
      (recursion_from_All (λ v. is_version_row v ≡ true) t.versions s.versions.fit)) in
      let numbers : IsAscending (λ a b. int_eq a.number b.number ≡ false) here =
      ascending_among (λ v. is_at name key v ≡ true) (λ a b. same_number a b ≡ false) (λ a b. int_eq a.number b.number ≡ false)
      (λ a b one two apart. second_false (is_at b.bucket b.key a) _ (at_same name key a b one two) apart) here all
      (ascending-filter (λ a b. same_number a b ≡ false) (is_at name key) t.versions s.versions.numbers) in
      let ids : IsAscending (λ a b. int_eq a.id b.id ≡ false) here =
      ascending_among (λ v. is_at name key v ≡ true) (λ a b. same_version a b ≡ false) (λ a b. int_eq a.id b.id ≡ false)
      (λ a b one two apart. second_false (is_at b.bucket b.key a) _ (at_same name key a b one two) apart) here all
      (ascending-filter (λ a b. same_version a b ≡ false) (is_at name key) t.versions s.versions.ids) in
      both_ascend (λ a b. int_eq a.number b.number ≡ false) (λ a b. int_eq a.id b.id ≡ false) Differ
      (λ a b number id. record { numbers = number; nulls = not_both a.id b.id id }) here numbers ids

  pub are_catalogued : AreCatalogued (catalogue_of e t)
  are_catalogued name key =
      let here = filter (is_at name key) t.versions in
      let counts : AllByRecursion (λ v. is_count v.number ≡ true) here =
      all-filter (λ v. is_count v.number ≡ true) (is_at name key) t.versions
      (all_weaker (λ v. is_version_row v ≡ true) (λ v. is_count v.number ≡ true) (λ v fit. (and_parts (is_count v.number) _ fit).0)
      t.versions
      (recursion_from_All (λ v. is_version_row v ≡ true) t.versions s.versions.fit)) in
      ap are_versions (rows_tell_versions e t name key s)
      ∙ in_order e (sort_by newest_first here) (all-sort_by newest_first newest_total (λ v. is_count v.number ≡ true) here counts)
      (before_sorted here (differ_here name key))

-- ---- the parts of an upload

number_below : (k n : ℕ) → nat_cmp k n ≡ Less → nat_lt k n ≡ true
number_below k n is = grind (arith, nat_tests)

all_below : {X : Type 0} (k : ℕ) (es : List (ℕ × X)) → T (below_all nat_cmp k es) → list_all (nat_lt k) (keys_of es) ≡ true
all_below k [] below = refl
all_below k (e ∷ es) below =
    and_from _ _ (number_below k e.0 (is_less _ (is_true _ (first_of (is_lt (nat_cmp k e.0)) (below_all nat_cmp k es) below))))
    (all_below k es (second_of (is_lt (nat_cmp k e.0)) (below_all nat_cmp k es) below))

keys_rise : {X : Type 0} (es : List (ℕ × X)) → T (is_sorted nat_cmp es) → rises (keys_of es) ≡ true
unfolding rises
keys_rise [] sorted = refl
keys_rise (e ∷ es) sorted =
    and_from _ _ (all_below e.0 es (first_of (below_all nat_cmp e.0 es) (is_sorted nat_cmp es) sorted))
    (keys_rise es (second_of (below_all nat_cmp e.0 es) (is_sorted nat_cmp es) sorted))

module _ (e : Encoding) (t : Tables) where
  of_row : (u : UploadColumns) → IsTrue (rises (numbers_of (parts_of e t.parts u.row)))
  unfolding parts_of
  of_row u = keys_rise _ (entries_sorted _)

  of_found : (found : Option UploadColumns) → IsTrue (rises (numbers_of (parts_sent (option_map (upload_of e t.parts) found))))
  of_found None = keys_rise {X = Part (List ℕ)} [] tt
  of_found (Some u) = of_row u

  pub parts_rise : AreSound t → PartsRise (catalogue_of e t)
  parts_rise s name key id =
      subst (λ (found : Option (Upload (List ℕ))). IsTrue (rises (numbers_of (parts_sent found))))
      (sym (rows_tell_upload e t name key id s)) (of_found (find (is_upload name key (pos id)) t.uploads))

-- ---- no key is without

held_some : {B : Type 0} (vs : List (Version B)) → held vs ≢ Some []
held_some [] is = absurd (none-some _ is)
held_some (v ∷ vs) is = let same = same_Some (v ∷ vs) [] is in cc

filled_some : {B : Type 0} (under : KeyUploads B) → filled under ≢ Some empty
filled_some {B} under = go (len under == 0) refl
  where
    go : (b : Bool) → (len under == 0) ≡ b → cond b None (Some under) ≢ Some empty
    go true none is = absurd (none-some _ is)
    go false some is = absurd (false≢true (sym some ∙ ap (λ (m : KeyUploads B). len m == 0) (same_Some under empty is)
        ∙ ap (λ n. n == 0) (len-empty nat_cmp (Upload B))))

module _ (e : Encoding) (t : Tables) where
  no_key : (key : List ℕ) (b : Bucket (List ℕ)) (found : Option BucketColumns) → option_map (bucket_of e t) found ≡ Some b
      → get b.keys key ≢ Some []
  no_key key b None none is = absurd (none-some b none)
  no_key key b (Some row) same is =
      held_some (versions_under e t.versions row.name key)
      (sym (get-keys e t.versions row.name key)
      ∙ ap (λ (c : Bucket (List ℕ)). get c.keys key) (same_Some (bucket_of e t row) b same) ∙ is)

  no_uploads : (key : List ℕ) (b : Bucket (List ℕ)) (found : Option BucketColumns) → option_map (bucket_of e t) found ≡ Some b
      → get b.uploads key ≢ Some empty
  no_uploads key b None none is = absurd (none-some b none)
  no_uploads key b (Some row) same is =
      filled_some (uploads_to e t.uploads t.parts row.name key)
      (sym (get-uploads e t.uploads t.parts row.name key)
      ∙ ap (λ (c : Bucket (List ℕ)). get c.uploads key) (same_Some (bucket_of e t row) b same) ∙ is)

  pub are_filled : AreFilled (catalogue_of e t)
  are_filled = record {
    versions = λ name key b found. no_key key b (find (is_named name) t.buckets) (sym (get-catalogue e t name) ∙ found);
    uploads = λ name key b found. no_uploads key b (find (is_named name) t.buckets) (sym (get-catalogue e t name) ∙ found);
  }
