-- The versions behind one, as two questions find them.
use Rattle.std.proofs.Common.{◌≡◌, refl, sym, ap, ap₂, subst, ◌∙◌, Bool, true, false, not, cond, ◌&&◌, ℕ, suc, ◌+◌, ℤ, List, [], ◌∷◌, ◌++◌, filter, find, map, drop, Option, Some, None, slice_get, Ordering, Less, Equal, Greater, int_eq, int_lt, int_cmp, is_eq, is_gt, arith, true≢false, ◌||◌, pos, negsuc, IfSome, option_map}
use Rattle.std.proofs.lemmas.Bool.{false≢true, false_from_ne_true, and_parts}
use Rattle.std.proofs.lemmas.Int.{ints}
use Rattle.std.proofs.lemmas.List.Elements.{recursion_from_All}
use Rattle.std.specs.Cmp.{IsTotalOrder, int_cmp_total, eq_by_cmp_equiv}
use Rattle.std.specs.FinMap.{get, entries}
use Rattle.std.specs.List.{AllByRecursion, after_first, prefix_len, flat_map}
use Rattle.std.specs.Ordering.{ordering_reverse}
use Rattle.std.specs.declared.ops.Bound.TheVariants.{Excluded}
use Rattle.sqlite_trees.specs.Tree.{IsAscending}
use Rattle.sqlite_keyed.specs.Lists.{insert_sorted, sort_by}
use Rattle.sqlite_keyed.specs.Rules.{AreApart}
use Rattle.sqlite_keyed.proofs.KeyedLemmas.{same_int, lt_from_Less}
use Rattle.sqlite_keyed.proofs.ListLemmas.{all_weaker, all_both, all-filter, all_of, ascending-filter, filter_all, map-map, slice_get-filter}
use Rattle.s3_names.specs.declared.ids.VersionId.{VersionId}
use Rattle.s3_versions.specs.Rules.{is_under}
use Rattle.s3_records.proofs.ListingLemmas.{version_rows_from, version_rows_behind, rows_behind_key}
use Rattle.s3_records.specs.Catalogue.{Bucket, versions_in, versions_of}
use Rattle.s3_records.specs.Rows.{held_in, version_row, behind_version, rows_at, versions_from}
use Rattle.s3_records.specs.declared.rows.Start.TheVariants.{Behind}
use Rattle.s3_records.specs.declared.rows.VersionRow.{VersionRow}
use Rattle.s3_records.specs.declared.rows.VersionStart.TheVariants.{At, BehindVersion}
use Rattle.s3_rows.specs.Columns.{VersionColumns, Tables}
use Rattle.s3_rows.specs.Encoding.{Encoding}
use Rattle.s3_rows.specs.Finding.{same_text, is_in, is_at, id_column, has_id, is_version, newest_first}
use Rattle.s3_rows.specs.Meaning.{version_of, catalogue_of}
use Rattle.s3_rows.specs.Soundness.{same_number, same_version, is_count, has_own_id, is_version_row, AreSound}
use Rattle.s3_rows.specs.VersionListLaws.{versions_listed}
use Rattle.s3_rows.proofs.EditLemmas.{filter_both}
use Rattle.s3_rows.proofs.MeaningLemmas.{same_text-true}
use Rattle.s3_rows.proofs.ReadingLemmas.{ascending_among, rows_tell_versions}
use Rattle.s3_rows.proofs.SortedLemmas.{all_passing, all-sort_by, sort_by-filter}
use Rattle.s3_rows.proofs.VersionLemmas.{newest_total, under_id}
use Rattle.s3_rows.proofs.VersionListLemmas.{rows_list_versions}
use Rattle.s3_stored_rows.specs.Queries as asked

-- ---- what stands behind the first that passes

one_more : (n : ℕ) → (1 + n) + 1 ≡ suc (n + 1)
one_more n = omega arith

module _ {X : Type 0} (p : X → Bool) where
  after_first-here : (x : X) (xs : List X) → p x ≡ true → after_first p (x ∷ xs) ≡ xs
  after_first-here x xs is = ap (λ b. drop (cond (not b) (1 + prefix_len (λ y. not (p y)) xs) 0 + 1) (x ∷ xs)) is

  after_first-later : (x : X) (xs : List X) → p x ≡ false → after_first p (x ∷ xs) ≡ after_first p xs
  after_first-later x xs is =
      ap (λ b. drop (cond (not b) (1 + prefix_len (λ y. not (p y)) xs) 0 + 1) (x ∷ xs)) is
      ∙ ap (λ n. drop n (x ∷ xs)) (one_more (prefix_len (λ y. not (p y)) xs))

after_first-map : {X Y : Type 0} (p : Y → Bool) (f : X → Y) (xs : List X) → after_first p (map f xs) ≡ map f (after_first (λ x. p (f x)) xs)
after_first-map p f [] = refl
after_first-map {X} p f (x ∷ xs) = go (p (f x)) refl (after_first-map p f xs)
  where
    go : (b : Bool) → p (f x) ≡ b → after_first p (map f xs) ≡ map f (after_first (λ y. p (f y)) xs) → after_first p (f x ∷ map f xs) ≡ map f (after_first (λ y. p (f y)) (x ∷ xs))
    go true is more = after_first-here p (f x) (map f xs) is ∙ sym (ap (map f) (after_first-here (λ y. p (f y)) x xs is))
    go false is more = after_first-later p (f x) (map f xs) is ∙ more ∙ sym (ap (map f) (after_first-later (λ y. p (f y)) x xs is))

after_first-agreeing : {X : Type 0} (p q : X → Bool) (xs : List X) → AllByRecursion (λ x. p x ≡ q x) xs → after_first p xs ≡ after_first q xs
after_first-agreeing p q [] all = refl
after_first-agreeing {X} p q (x ∷ xs) all = go (q x) refl (after_first-agreeing p q xs all.1)
  where
    go : (b : Bool) → q x ≡ b → after_first p xs ≡ after_first q xs → after_first p (x ∷ xs) ≡ after_first q (x ∷ xs)
    go true is more = after_first-here p x xs (all.0 ∙ is) ∙ sym (after_first-here q x xs is)
    go false is more = after_first-later p x xs (all.0 ∙ is) ∙ more ∙ sym (after_first-later q x xs is)

-- ---- rows of one key, newest first

falls_below : (m n : ℤ) → int_cmp n m ≡ Less → int_lt n m ≡ true
falls_below m n less = let l = lt_from_Less n m less in grind (arith, ints)

not_below : (m n : ℤ) → int_cmp n m ≡ Less → int_lt m n ≡ false
not_below m n less = let l = lt_from_Less n m less in grind (arith, ints)

itself_below : (n : ℤ) → int_lt n n ≡ false
itself_below n = grind (arith, ints)

-- two rows fall: the second has the smaller number
abbrev Falls : VersionColumns → VersionColumns → Type 0
Falls v w = newest_first v w ≡ Less

find_all : {X : Type 0} (P : X → Type 0) (p : X → Bool) (xs : List X) (x : X) → AllByRecursion P xs → find p xs ≡ Some x → P x
find_all P p [] x all found = cc
find_all {X} P p (y ∷ ys) x all found = go (p y) found (find_all P p ys x all.1)
  where
    go : (b : Bool) → cond b (Some y) (find p ys) ≡ Some x → (find p ys ≡ Some x → P x) → P x
    go true e more = let same : y ≡ x = cc in subst P same all.0
    go false e more = more e

-- behind the first that passes are those with smaller numbers
behind_found : (p : VersionColumns → Bool) (vs : List VersionColumns) (v : VersionColumns) → IsAscending Falls vs → find p vs ≡ Some v → after_first p vs ≡ filter (λ w. int_lt w.number v.number) vs
behind_found p [] v falls found = cc
behind_found p (w ∷ ws) v falls found = go (p w) refl found (behind_found p ws v falls.1)
  where
    go : (b : Bool) → p w ≡ b → cond b (Some w) (find p ws) ≡ Some v → (find p ws ≡ Some v → after_first p ws ≡ filter (λ u. int_lt u.number v.number) ws)
        → after_first p (w ∷ ws) ≡ cond (int_lt w.number v.number) (w ∷ filter (λ u. int_lt u.number v.number) ws) (filter (λ u. int_lt u.number v.number) ws)
    go true is found more =
        let same : w ≡ v = cc in
        after_first-here p w ws is
        ∙ sym (filter_all (λ u. int_lt u.number w.number) ws (all_weaker (Falls w) _ (λ u less. falls_below w.number u.number less) ws falls.0))
        ∙ sym (ap (λ b. cond b (w ∷ filter (λ u. int_lt u.number w.number) ws) (filter (λ u. int_lt u.number w.number) ws)) (itself_below w.number))
        ∙ ap (λ x. cond (int_lt w.number x.number) (w ∷ filter (λ u. int_lt u.number x.number) ws) (filter (λ u. int_lt u.number x.number) ws)) same
    go false is found more =
        after_first-later p w ws is ∙ more found
        ∙ sym (ap (λ b. cond b (w ∷ filter (λ u. int_lt u.number v.number) ws) (filter (λ u. int_lt u.number v.number) ws)) (not_below w.number v.number (find_all (Falls w) p ws v falls.0 found)))

none_passes : {X : Type 0} (p : X → Bool) (xs : List X) → AllByRecursion (λ x. p x ≡ false) xs → find p xs ≡ None
none_passes p [] all = refl
none_passes p (x ∷ xs) all = ap (λ b. cond b (Some x) (find p xs)) all.0 ∙ none_passes p xs all.1

falls_on : (m n : ℤ) (k : ℕ) → int_cmp n m ≡ Less → int_lt m (pos k) ≡ true → int_lt n (pos k) ≡ true
falls_on m n k less below = let l = lt_from_Less n m less in grind (arith, ints)

-- a version with a smaller number has another id
other_id : (n : ℕ) (v : VersionColumns) → is_version_row v ≡ true → int_lt v.number (pos n) ≡ true → has_id (pos n) v ≡ false
other_id n v fits below = false_from_ne_true (has_id (pos n) v) (λ is.
    let own = subst (λ z. (int_eq z (negsuc 0) || int_eq z v.number) ≡ true) (same_int v.id (pos n) is) (and_parts (has_own_id v) _ (and_parts (is_count v.number) _ fits).1).0 in
    let same : pos n ≡ v.number = same_int (pos n) v.number own in
    false≢true (sym (itself_below (pos n)) ∙ ap (λ z. int_lt z (pos n)) same ∙ below))

no_such_id : (n : ℕ) (newest : Option ℤ) (vs : List VersionColumns) → IsAscending Falls vs → AllByRecursion (λ v. is_version_row v ≡ true) vs → newest ≡ option_map (λ (v : VersionColumns). v.number) (slice_get vs 0)
    → IfSome newest (λ m. int_lt m (pos n) ≡ true) → find (has_id (pos n)) vs ≡ None
no_such_id n newest [] falls fit is below = refl
no_such_id n newest (v ∷ vs) falls fit is below =
    let here : int_lt v.number (pos n) ≡ true = subst (λ o. IfSome o (λ m. int_lt m (pos n) ≡ true)) is below in
    none_passes (has_id (pos n)) (v ∷ vs)
    (other_id n v fit.0 here, all_both (Falls v) (λ w. is_version_row w ≡ true) _ (λ w less fits. other_id n w fits (falls_on v.number w.number n less here)) vs falls.0 fit.1)

none_found : {X : Type 0} (p : X → Bool) (xs : List X) → find p xs ≡ None → after_first p xs ≡ []
none_found p [] none = refl
none_found {X} p (x ∷ xs) none = go (p x) refl none (none_found p xs)
  where
    go : (b : Bool) → p x ≡ b → cond b (Some x) (find p xs) ≡ None → (find p xs ≡ None → after_first p xs ≡ []) → after_first p (x ∷ xs) ≡ []
    go true is none more = cc
    go false is none more = after_first-later p x xs is ∙ more none

-- rows that are apart fall strictly once they are sorted
module _ {X : Type 0} (cmp : X → X → Ordering) (total : IsTotalOrder cmp) where
  rises-insert_sorted : (new : X) (xs : List X) → AllByRecursion (λ y. is_eq (cmp new y) ≡ false) xs → IsAscending (λ a b. cmp a b ≡ Less) xs → IsAscending (λ a b. cmp a b ≡ Less) (insert_sorted cmp new xs)
  rises-insert_sorted new [] apart up = (tt, tt)
  rises-insert_sorted new (x ∷ xs) apart up = go (cmp new x) refl (rises-insert_sorted new xs apart.1 up.1)
    where
      go : (o : Ordering) → cmp new x ≡ o → IsAscending (λ a b. cmp a b ≡ Less) (insert_sorted cmp new xs)
          → IsAscending (λ a b. cmp a b ≡ Less) (cond (is_gt o) (x ∷ insert_sorted cmp new xs) (new ∷ x ∷ xs))
      go Less e more = ((e, all_weaker _ (λ y. cmp new y ≡ Less) (λ y. total.trans new x y e) xs up.0), up)
      go Equal e more = absurd (true≢false (sym (ap is_eq e) ∙ apart.0))
      go Greater e more = (all_put new xs (total.antisymm x new ∙ ap ordering_reverse e) up.0, more)
        where
          all_put : (new : X) (ys : List X) → cmp x new ≡ Less → AllByRecursion (λ y. cmp x y ≡ Less) ys → AllByRecursion (λ y. cmp x y ≡ Less) (insert_sorted cmp new ys)
          all_put new [] less all = (less, tt)
          all_put new (y ∷ ys) less all =
              elim (is_gt (cmp new y)) as (λ b. AllByRecursion (λ z. cmp x z ≡ Less) (cond b (y ∷ insert_sorted cmp new ys) (new ∷ y ∷ ys))) [ true ↦ (all.0, all_put new ys less all.1) | false ↦ (less, all) ]

  rises-sort_by : (xs : List X) → IsAscending (λ a b. is_eq (cmp a b) ≡ false) xs → IsAscending (λ a b. cmp a b ≡ Less) (sort_by cmp xs)
  rises-sort_by [] apart = tt
  rises-sort_by (x ∷ xs) apart = rises-insert_sorted x _ (all-sort_by cmp total _ xs apart.0) (rises-sort_by xs apart.1)

-- where at most one row passes, sorting changes nothing
one_sorted : {X : Type 0} (clash : X → X → Bool) (order : X → X → Ordering) (p : X → Bool) → ((x y : X) → p x ≡ true → p y ≡ true → clash x y ≡ true) → (xs : List X) → AreApart clash xs → sort_by order (filter p xs) ≡ filter p xs
one_sorted {X} clash order p clashes xs apart = go (filter p xs) (ascending-filter (λ a b. clash a b ≡ false) p xs apart) (all_passing (λ x. p x ≡ true) p xs (all_of (λ x. p x ≡ true → p x ≡ true) (λ x is. is) xs))
  where
    go : (ys : List X) → AreApart clash ys → AllByRecursion (λ x. p x ≡ true) ys → sort_by order ys ≡ ys
    go [] apart all = refl
    go (x ∷ []) apart all = refl
    go (x ∷ y ∷ ys) apart all = absurd (false≢true (sym apart.0.0 ∙ clashes x y all.0 all.1.0))

map_agreeing : {X Y : Type 0} (f g : X → Y) (xs : List X) → AllByRecursion (λ x. f x ≡ g x) xs → map f xs ≡ map g xs
map_agreeing f g [] all = refl
map_agreeing f g (x ∷ xs) all = ap₂ ◌∷◌ all.0 (map_agreeing f g xs all.1)

-- what is told of a version that is not the current one
abbrev pub older_row : Encoding → VersionColumns → VersionRow
older_row e v = version_row v.key false (version_of e v)

module _ (bucket key : List ℕ) where
  -- the rows behind the one that was found
  abbrev pub older : Tables → Option VersionColumns → List VersionColumns
  older t None = []
  older t (Some v) = asked.versions_below bucket key v.number t

  -- two rows under the key stand at one place
  one_place : (v w : VersionColumns) → is_at bucket key v ≡ true → is_at bucket key w ≡ true → is_at w.bucket w.key v ≡ true
  one_place v w one two =
      let places = and_parts (same_text w.bucket bucket) _ two in
      subst (λ k. is_at w.bucket k v ≡ true) (sym (same_text-true w.key key places.1)) (subst (λ n. is_at n key v ≡ true) (sym (same_text-true w.bucket bucket places.0)) one)

  numbers_differ : (v w : VersionColumns) → is_at bucket key v ≡ true → is_at bucket key w ≡ true → same_number v w ≡ false → is_eq (newest_first v w) ≡ false
  numbers_differ v w one two apart =
      (eq_by_cmp_equiv int_cmp_total).symm w.number v.number ∙ ap (λ b. b && int_eq v.number w.number) (sym (one_place v w one two)) ∙ apart

  ids_clash : (id : ℤ) (v w : VersionColumns) → is_version bucket key id v ≡ true → is_version bucket key id w ≡ true → same_version v w ≡ true
  ids_clash id v w one two =
      let a = and_parts (is_at bucket key v) _ one in
      let b = and_parts (is_at bucket key w) _ two in
      ap₂ ◌&&◌ (one_place v w a.0 b.0) (ap (λ z. int_eq v.id z) (same_int w.id id b.1) ∙ a.1)

  module _ (t : Tables) (s : AreSound t) where
    abbrev here : List VersionColumns
    here = filter (is_at bucket key) t.versions

    all_here : AllByRecursion (λ v. is_at bucket key v ≡ true) here
    all_here = all_passing (λ v. is_at bucket key v ≡ true) (is_at bucket key) t.versions (all_of (λ v. is_at bucket key v ≡ true → is_at bucket key v ≡ true) (λ v is. is) t.versions)

    numbers_fall : IsAscending Falls (sort_by newest_first here)
    numbers_fall =
        rises-sort_by newest_first newest_total here
        (ascending_among (λ v. is_at bucket key v ≡ true) (λ v w. same_number v w ≡ false) (λ v w. is_eq (newest_first v w) ≡ false) numbers_differ here all_here
        (ascending-filter (λ v w. same_number v w ≡ false) (is_at bucket key) t.versions s.versions.numbers))

    found_sorted : (id : ℤ) → find (has_id id) (sort_by newest_first here) ≡ find (is_version bucket key id) t.versions
    found_sorted id =
        sym (slice_get-filter (has_id id) (sort_by newest_first here))
        ∙ ap (λ l. slice_get l 0) (sym (sort_by-filter newest_first newest_total (has_id id) here)
        ∙ ap (sort_by newest_first) (sym (filter_both (is_at bucket key) (has_id id) t.versions))
        ∙ one_sorted same_version newest_first (is_version bucket key id) (ids_clash id) t.versions s.versions.ids)
        ∙ slice_get-filter (is_version bucket key id) t.versions

    older_found : (p : VersionColumns → Bool) (o : Option VersionColumns) → find p (sort_by newest_first here) ≡ o → after_first p (sort_by newest_first here) ≡ older t o
    older_found p None none = none_found p (sort_by newest_first here) none
    older_found p (Some v) found =
        behind_found p (sort_by newest_first here) v numbers_fall found
        ∙ sym (sort_by-filter newest_first newest_total (λ w. int_lt w.number v.number) here)
        ∙ ap (sort_by newest_first) (sym (filter_both (is_at bucket key) (λ w. int_lt w.number v.number) t.versions))

    all_fit : AllByRecursion (λ v. is_version_row v ≡ true) (sort_by newest_first here)
    all_fit = all-sort_by newest_first newest_total _ here (all-filter _ (is_at bucket key) t.versions (recursion_from_All _ t.versions s.versions.fit))

    -- an id above the number of the newest version is that of none
    large_id : (n : ℕ) (newest : Option ℤ) → newest ≡ option_map (λ (v : VersionColumns). v.number) (asked.newest_version bucket key t) → IfSome newest (λ m. int_lt m (pos n) ≡ true) → find (is_version bucket key (pos n)) t.versions ≡ None
    large_id n newest is below = sym (found_sorted (pos n)) ∙ no_such_id n newest (sort_by newest_first here) numbers_fall all_fit is below

    pub none_newest : (n : ℕ) (newest : Option ℤ) → newest ≡ option_map (λ (v : VersionColumns). v.number) (asked.newest_version bucket key t) → newest ≡ None
        → None ≡ option_map (λ (v : VersionColumns). v.number) (find (is_version bucket key (pos n)) t.versions)
    none_newest n newest is none = sym (ap (option_map (λ (v : VersionColumns). v.number)) (large_id n newest is (subst (λ o. IfSome o (λ m. int_lt m (pos n) ≡ true)) (sym none) tt)))

    pub newest_below : (n : ℕ) (newest : Option ℤ) (m : ℤ) → newest ≡ option_map (λ (v : VersionColumns). v.number) (asked.newest_version bucket key t) → newest ≡ Some m → int_lt m (pos n) ≡ true
        → None ≡ option_map (λ (v : VersionColumns). v.number) (find (is_version bucket key (pos n)) t.versions)
    newest_below n newest m is some below = sym (ap (option_map (λ (v : VersionColumns). v.number)) (large_id n newest is (subst (λ o. IfSome o (λ z. int_lt z (pos n) ≡ true)) (sym some) below)))

    older_keys : (o : Option VersionColumns) → AllByRecursion (λ v. v.key ≡ key) (older t o)
    older_keys None = tt
    older_keys (Some w) =
        all-sort_by newest_first newest_total (λ v. v.key ≡ key) (filter (asked.is_below bucket key w.number) t.versions)
        (all_passing (λ v. v.key ≡ key) (asked.is_below bucket key w.number) t.versions (all_of (λ v. asked.is_below bucket key w.number v ≡ true → v.key ≡ key)
        (λ v is. same_text-true v.key key (and_parts (is_in bucket v) _ (and_parts (is_at bucket key v) _ is).0).1) t.versions))

    -- the versions behind the one of an id are those of the rows with smaller numbers
    older_versions : (e : Encoding) (id : VersionId) → behind_version id (versions_of (catalogue_of e t) bucket key) ≡ map (version_of e) (older t (find (is_version bucket key (id_column id)) t.versions))
    older_versions e id =
        ap (after_first (is_under id)) (rows_tell_versions e t bucket key s)
        ∙ after_first-map (is_under id) (version_of e) (sort_by newest_first here)
        ∙ ap (map (version_of e))
        (after_first-agreeing (λ v. is_under id (version_of e v)) (has_id (id_column id)) (sort_by newest_first here)
        (all-sort_by newest_first newest_total _ here (all_weaker _ (λ v. is_under id (version_of e v) ≡ has_id (id_column id) v) (λ v fits. sym (under_id e id v fits)) here
        (all-filter _ (is_at bucket key) t.versions (recursion_from_All _ t.versions s.versions.fit))))
        ∙ older_found (has_id (id_column id)) (find (is_version bucket key (id_column id)) t.versions) (found_sorted (id_column id)))

    pub older_told : (e : Encoding) (id : VersionId) → map (version_row key false) (behind_version id (versions_of (catalogue_of e t) bucket key)) ≡ map (older_row e) (older t (find (is_version bucket key (id_column id)) t.versions))
    older_told e id =
        let o = find (is_version bucket key (id_column id)) t.versions in
        ap (map (version_row key false)) (older_versions e id)
        ∙ map-map (version_row key false) (version_of e) (older t o)
        ∙ map_agreeing (λ v. version_row key false (version_of e v)) (older_row e) (older t o)
        (all_weaker (λ v. v.key ≡ key) _ (λ v is. ap (λ k. version_row k false (version_of e v)) (sym is)) (older t o) (older_keys o))

-- those behind a version, and those behind its key
past_version : {B : Type 0} (key : List ℕ) (id : VersionId) (o : Option (Bucket B))
    → flat_map (rows_at (BehindVersion key id)) (held_in o) ≡ map (version_row key false) (behind_version id (versions_in o key)) ++ flat_map (rows_at (At (Behind key))) (held_in o)
past_version key id None = refl
past_version key id (Some b) =
    sym (version_rows_behind b.keys key id)
    ∙ ap (λ l. map (version_row key false) (behind_version id (versions_in (Some b) key)) ++ l)
    (sym (rows_behind_key key (entries b.keys) (entries b.keys) refl) ∙ version_rows_from (Excluded key) (Behind key) (λ q. refl) (entries b.keys) (entries b.keys) refl)

pub versions_past : (e : Encoding) (t : Tables) (bucket key : List ℕ) (id : VersionId) → AreSound t
    → versions_from (catalogue_of e t) bucket (BehindVersion key id)
    ≡ map (version_row key false) (behind_version id (versions_of (catalogue_of e t) bucket key)) ++ versions_listed e None (asked.versions_behind bucket key t)
versions_past e t bucket key id s =
    past_version key id (get (catalogue_of e t) bucket)
    ∙ ap (λ l. map (version_row key false) (behind_version id (versions_of (catalogue_of e t) bucket key)) ++ l) (rows_list_versions e t bucket (Behind key) s)
