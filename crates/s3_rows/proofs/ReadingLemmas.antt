-- The laws of what queries tell.
use Rattle.std.proofs.Common.{◌≡◌, refl, sym, ap, ap₂, subst, ◌∙◌, Bool, true, false, cond, ◌&&◌, ℕ, ℤ, pos, List, [], ◌∷◌, map, filter, find, Option, Some, None, is_some, option_map, slice_get, Ordering, Less, Equal, Greater, int_eq, int_le, int_cmp, is_eq, is_gt, unsigned_abs, arith, true≢false}
use Rattle.std.proofs.lemmas.Bool.{false≢true, and_left, and_parts}
use Rattle.std.proofs.lemmas.Int.{ints}
use Rattle.std.proofs.lemmas.List.Elements.{recursion_from_All}
use Rattle.std.specs.Cmp.{IsTotalOrder, nat_cmp_total, int_cmp_total, on_total, tied_itself, ranked}
use Rattle.std.specs.Cmp.Lexicographic.{nat_list_cmp_total}
use Rattle.std.specs.FinMap.{get, entries, entries-insert}
use Rattle.std.specs.FinMap.Entries as Entries
use Rattle.std.specs.List.{AllByRecursion, list_any}
use Rattle.std.specs.Ordering.{nat_cmp, ordering_reverse}
use Rattle.sqlite_trees.specs.Tree.{IsAscending}
use Rattle.sqlite_keyed.specs.Lists.{insert_sorted, sort_by}
use Rattle.sqlite_keyed.specs.Rules.{AreApart}
use Rattle.sqlite_keyed.proofs.ListLemmas.{all_weaker, all_both, all-filter, any_from_none, none_from_any, map-map, slice_get-filter, ascending-filter}
use Rattle.sqlite_keyed.proofs.KeyedLemmas.{same_int, Less-from_lt}
use Rattle.sqlite_keyed.proofs.SliceLemmas.{any_is_found}
use Rattle.s3_versions.specs.declared.version.Version.{Version}
use Rattle.s3_versions.specs.Rules.{is_under, current}
use Rattle.s3_records.specs.Catalogue.{facts_of, listed_bucket, versions_in, versions_of}
use Rattle.s3_records.specs.OpenUploads.{upload_in, parts_sent}
use Rattle.s3_rows.specs.Columns.{BucketColumns, VersionColumns, PartColumns, Tables}
use Rattle.s3_rows.specs.Encoding.{Encoding}
use Rattle.s3_rows.specs.Finding.{same_text, is_named, is_at, id_column, has_id, is_version, newest_first, is_upload_in, is_upload_to, is_upload, is_sent_to, by_part, is_in, is_under_key}
use Rattle.s3_rows.specs.Meaning.{collected, version_of, versions_under, part_of, parts_of, upload_of, bucket_of, catalogue_of}
use Rattle.s3_rows.specs.ReadingLaws.{row_facts, by_name, numbered_part, RowsTellFacts, RowsListBuckets, RowsTellVersions, RowsTellCurrent, RowsTellVersion, RowsTellUpload, RowsTellParts}
use Rattle.s3_rows.specs.Soundness.{same_version, same_part, is_count, is_upload_row, is_part_row, has_bucket_row, AreSound}
use Rattle.s3_rows.proofs.BucketLemmas.{none_kept, no_rows_in}
use Rattle.s3_rows.proofs.CollectedLemmas.{no_entries}
use Rattle.s3_rows.proofs.EditLemmas.{find_passes, find_agreeing, filter_both, same_key}
use Rattle.s3_rows.proofs.MeaningLemmas.{same_text-true, get-catalogue, uploads_under-uploads}
use Rattle.s3_rows.proofs.SortedLemmas.{all_passing, all-sort_by, sort_by-filter}
use Rattle.s3_rows.proofs.UploadLemmas.{get-upload, part_counts, count_pos_abs}
use Rattle.s3_rows.proofs.VersionLemmas.{newest_total, under_id}
use Rattle.s3_rows.proofs.VersionLawLemmas.{versions_of-there}
use Rattle.s3_text.specs.Order.{byte_order}

-- ---- the entries of a map that is collected from rows, no two of which have one key

module _ {X K V : Type 0} (R : K → K → Ordering) (total : IsTotalOrder R) (key : X → K) (value : X → V) where
  abbrev by_key : X → X → Ordering
  by_key a b = R (key a) (key b)

  abbrev entry : X → K × V
  entry x = (key x, value x)

  put_sorted : (x : X) (ys : List X) → AllByRecursion (λ y. is_eq (by_key x y) ≡ false) ys → Entries.put R (key x) (value x) (map entry ys) ≡ map entry (insert_sorted by_key x ys)
  put_sorted x [] apart = refl
  put_sorted x (y ∷ ys) apart = go (by_key x y) apart.0 (put_sorted x ys apart.1)
    where
      go : (o : Ordering) → is_eq o ≡ false → Entries.put R (key x) (value x) (map entry ys) ≡ map entry (insert_sorted by_key x ys)
          → Entries.by_order o (entry x ∷ entry y ∷ map entry ys) ((key y, value x) ∷ map entry ys) (entry y ∷ Entries.put R (key x) (value x) (map entry ys))
          ≡ map entry (cond (is_gt o) (y ∷ insert_sorted by_key x ys) (x ∷ y ∷ ys))
      go Less is more = refl
      go Equal is more = absurd (true≢false is)
      go Greater is more = ap (λ l. entry y ∷ l) more

  pub entries-collected : (xs : List X) → AreApart (λ a b. is_eq (by_key a b)) xs → entries (collected R key value xs) ≡ map entry (sort_by by_key xs)
  entries-collected [] apart = no_entries R
  entries-collected (x ∷ xs) apart =
      entries-insert total (collected R key value xs) (key x) (value x)
      ∙ ap (Entries.put R (key x) (value x)) (entries-collected xs apart.1)
      ∙ put_sorted x (sort_by by_key xs) (all-sort_by by_key (on_total key total) (λ y. is_eq (by_key x y) ≡ false) xs apart.0)

-- two orders that agree on rows sort them alike
pub sort_agreeing : {X : Type 0} (P : X → Type 0) (cmp other : X → X → Ordering) → ((a b : X) → P a → P b → cmp a b ≡ other a b) → (xs : List X) → AllByRecursion P xs
    → (sort_by cmp xs ≡ sort_by other xs) × AllByRecursion P (sort_by other xs)
sort_agreeing P cmp other same [] all = (refl, tt)
sort_agreeing {X} P cmp other same (x ∷ xs) all =
    let rest = sort_agreeing P cmp other same xs all.1 in
    (ap (insert_sorted cmp x) rest.0 ∙ put_alike (sort_by other xs) rest.1, put_all (sort_by other xs) rest.1)
  where
    put_alike : (ys : List X) → AllByRecursion P ys → insert_sorted cmp x ys ≡ insert_sorted other x ys
    put_alike [] fit = refl
    put_alike (y ∷ ys) fit =
        ap (λ o. cond (is_gt o) (y ∷ insert_sorted cmp x ys) (x ∷ y ∷ ys)) (same x y all.0 fit.0)
        ∙ ap (λ l. cond (is_gt (other x y)) (y ∷ l) (x ∷ y ∷ ys)) (put_alike ys fit.1)

    put_all : (ys : List X) → AllByRecursion P ys → AllByRecursion P (insert_sorted other x ys)
    put_all [] fit = (all.0, tt)
    put_all (y ∷ ys) fit =
        elim (is_gt (other x y)) as (λ b. AllByRecursion P (cond b (y ∷ insert_sorted other x ys) (x ∷ y ∷ ys))) [ true ↦ (fit.0, put_all ys fit.1) | false ↦ (all.0, fit) ]

-- where at most one row passes, sorting changes nothing
one_sorted : {X : Type 0} (clash : X → X → Bool) (order : X → X → Ordering) (p : X → Bool) → ((x y : X) → p x ≡ true → p y ≡ true → clash x y ≡ true) → (xs : List X) → AreApart clash xs → sort_by order (filter p xs) ≡ filter p xs
one_sorted {X} clash order p clashes xs apart = go (filter p xs) (ascending-filter (λ a b. clash a b ≡ false) p xs apart) (all_passing (λ x. p x ≡ true) p xs (all_true xs))
  where
    all_true : (ys : List X) → AllByRecursion (λ x. p x ≡ true → p x ≡ true) ys
    all_true [] = tt
    all_true (y ∷ ys) = ((λ is. is), all_true ys)

    go : (ys : List X) → AreApart clash ys → AllByRecursion (λ x. p x ≡ true) ys → sort_by order ys ≡ ys
    go [] apart all = refl
    go (x ∷ []) apart all = refl
    go (x ∷ y ∷ ys) apart all = absurd (false≢true (sym apart.0.0 ∙ clashes x y all.0 all.1.0))

find-map : {X Y : Type 0} (q : Y → Bool) (f : X → Y) (xs : List X) → find q (map f xs) ≡ option_map f (find (λ x. q (f x)) xs)
find-map q f [] = refl
find-map q f (x ∷ xs) =
    elim (q (f x)) as (λ b. cond b (Some (f x)) (find q (map f xs)) ≡ option_map f (cond b (Some x) (find (λ y. q (f y)) xs))) [ true ↦ refl | false ↦ find-map q f xs ]

-- ---- buckets

pub rows_tell_facts : RowsTellFacts
rows_tell_facts e t name = ap (option_map facts_of) (get-catalogue e t name) ∙ twice (find (is_named name) t.buckets)
  where
    twice : (o : Option BucketColumns) → option_map facts_of (option_map (bucket_of e t) o) ≡ option_map (row_facts e) o
    twice None = refl
    twice (Some b) = refl

pub rows_list_buckets : RowsListBuckets
unfolding catalogue_of
rows_list_buckets e t s =
    ap (map listed_bucket) (entries-collected byte_order nat_list_cmp_total (λ b. b.name) (bucket_of e t) t.buckets s.buckets.names)
    ∙ map-map listed_bucket (λ b. (b.name, bucket_of e t b)) (sort_by by_name t.buckets)

-- ---- versions

nothing_under : (e : Encoding) (t : Tables) (bucket key : List ℕ) → AreSound t → has_bucket_row t.buckets bucket ≡ false → versions_under e t.versions bucket key ≡ []
unfolding versions_under
nothing_under e t bucket key s none =
    ap (λ l. map (version_of e) (sort_by newest_first l))
    (filter_both (is_in bucket) (is_under_key key) t.versions
    ∙ ap (filter (is_under_key key)) (none_kept (is_in bucket) t.versions (no_rows_in (λ v. v.bucket) t.buckets t.versions bucket s.version_buckets none)))

pub absent : {X : Type 0} (p : X → Bool) (xs : List X) → list_any p xs ≡ false → find p xs ≡ None
absent p xs none = go (find p xs) (sym (any_is_found p xs) ∙ none)
  where
    go : {Y : Type 0} (o : Option Y) → is_some o ≡ false → o ≡ None
    go None is = refl
    go (Some y) is = cc

pub versions_of-rows : (e : Encoding) (t : Tables) (bucket key : List ℕ) → AreSound t → versions_of (catalogue_of e t) bucket key ≡ versions_under e t.versions bucket key
versions_of-rows e t bucket key s = go (has_bucket_row t.buckets bucket) refl
  where
    go : (b : Bool) → has_bucket_row t.buckets bucket ≡ b → versions_of (catalogue_of e t) bucket key ≡ versions_under e t.versions bucket key
    go true there = versions_of-there e t bucket key there
    go false none =
        ap (λ b. versions_in b key) (get-catalogue e t bucket ∙ ap (option_map (bucket_of e t)) (absent (is_named bucket) t.buckets none))
        ∙ sym (nothing_under e t bucket key s none)

pub rows_tell_versions : RowsTellVersions
unfolding versions_under
rows_tell_versions e t bucket key s = versions_of-rows e t bucket key s

first_of : {X Y : Type 0} (f : X → Version Y) (xs : List X) → current (map f xs) ≡ option_map f (slice_get xs 0)
first_of f [] = refl
first_of f (x ∷ xs) = refl

pub rows_tell_current : RowsTellCurrent
rows_tell_current e t bucket key s = ap current (rows_tell_versions e t bucket key s) ∙ first_of (version_of e) (sort_by newest_first (filter (is_at bucket key) t.versions))

-- two rows of one id under one key clash
same_place : (bucket key : List ℕ) (id : ℤ) (v w : VersionColumns) → is_version bucket key id v ≡ true → is_version bucket key id w ≡ true → same_version v w ≡ true
same_place bucket key id v w one two =
    let a = and_parts (is_at bucket key v) _ one in
    let b = and_parts (is_at bucket key w) _ two in
    let places = and_parts (same_text w.bucket bucket) _ b.0 in
    subst (λ z. is_version w.bucket w.key z v ≡ true) (sym (same_int w.id id b.1))
    (subst (λ k. is_version w.bucket k id v ≡ true) (sym (same_text-true w.key key places.1))
    (subst (λ n. is_version n key id v ≡ true) (sym (same_text-true w.bucket bucket places.0)) one))

pub rows_tell_version : RowsTellVersion
rows_tell_version e t bucket key id s =
    let here = filter (is_at bucket key) t.versions in
    let fit = recursion_from_All _ t.versions s.versions.fit in
    ap (find (is_under id)) (rows_tell_versions e t bucket key s)
    ∙ find-map (is_under id) (version_of e) (sort_by newest_first here)
    ∙ ap (option_map (version_of e))
    (find_agreeing (λ v. is_under id (version_of e v)) (has_id (id_column id)) (sort_by newest_first here)
    (all-sort_by newest_first newest_total _ here (all_weaker _ (λ v. is_under id (version_of e v) ≡ has_id (id_column id) v) (λ v fits. sym (under_id e id v fits)) here (all-filter _ (is_at bucket key) t.versions fit)))
    ∙ sym (slice_get-filter (has_id (id_column id)) (sort_by newest_first here))
    ∙ ap (λ l. slice_get l 0) (sym (sort_by-filter newest_first newest_total (has_id (id_column id)) here)
    ∙ ap (sort_by newest_first) (sym (filter_both (is_at bucket key) (has_id (id_column id)) t.versions))
    ∙ one_sorted same_version newest_first (is_version bucket key (id_column id)) (same_place bucket key (id_column id)) t.versions s.versions.ids)
    ∙ slice_get-filter (is_version bucket key (id_column id)) t.versions)

-- ---- uploads

pub rows_tell_upload : RowsTellUpload
rows_tell_upload e t bucket key id s = ap (λ b. upload_in b key id) (get-catalogue e t bucket) ∙ go (find (is_named bucket) t.buckets) refl
  where
    fit : AllByRecursion (λ u. is_upload_row u ≡ true) t.uploads
    fit = recursion_from_All _ t.uploads s.uploads.fit

    none_there : has_bucket_row t.buckets bucket ≡ false → list_any (is_upload bucket key (pos id)) t.uploads ≡ false
    none_there none = any_from_none (is_upload bucket key (pos id)) t.uploads (all_weaker _ (λ u. is_upload bucket key (pos id) u ≡ false)
        (λ u other. and_left (is_upload_to bucket key u) _ (and_left (is_upload_in bucket u) _ other)) t.uploads
        (none_from_any (is_upload_in bucket) t.uploads (no_rows_in (λ u. u.bucket) t.buckets t.uploads bucket s.upload_buckets none)))

    go : (o : Option BucketColumns) → find (is_named bucket) t.buckets ≡ o → upload_in (option_map (bucket_of e t) o) key id ≡ option_map (upload_of e t.parts) (find (is_upload bucket key (pos id)) t.uploads)
    go None none = ap (option_map (upload_of e t.parts)) (sym (absent (is_upload bucket key (pos id)) t.uploads (none_there (any_is_found (is_named bucket) t.buckets ∙ ap is_some none))))
    go (Some b) found =
        let named = same_text-true b.name bucket (find_passes (is_named bucket) t.buckets b found) in
        ap (λ m. get m id) (uploads_under-uploads e t.uploads t.parts b.name key)
        ∙ get-upload e t.uploads t.parts b.name key id fit
        ∙ ap (λ n. option_map (upload_of e t.parts) (find (is_upload n key (pos id)) t.uploads)) named

-- ---- parts

-- what holds of any two rows of a list follows to another relation, at rows that have something
pub ascending_among : {X : Type 0} (P : X → Type 0) (R S : X → X → Type 0) → ((a b : X) → P a → P b → R a b → S a b) → (xs : List X) → AllByRecursion P xs → IsAscending R xs → IsAscending S xs
ascending_among P R S then [] all up = tt
ascending_among P R S then (x ∷ xs) all up = (all_both P (R x) (S x) (λ y h r. then x y all.0 h r) xs all.1 up.0, ascending_among P R S then xs all.1 up.1)

pub cmp_pos : (m n : ℕ) → nat_cmp m n ≡ int_cmp (pos m) (pos n)
cmp_pos m n = go (nat_cmp m n) refl
  where
    go : (o : Ordering) → nat_cmp m n ≡ o → o ≡ int_cmp (pos m) (pos n)
    go Less is = let l = ranked m n Less (sym is) in sym (Less-from_lt (pos m) (pos n) (omega (arith, ints)))
    go Equal is = let l = ranked m n Equal (sym is) in subst (λ k. Equal ≡ int_cmp (pos m) (pos k)) l (sym (tied_itself int_cmp_total (pos m)))
    go Greater is = let l = ranked m n Greater (sym is) in sym (int_cmp_total.antisymm (pos m) (pos n) ∙ ap ordering_reverse (Less-from_lt (pos n) (pos m) (omega (arith, ints))))

-- a part of an upload, with a number
abbrev IsPartOf : ℤ → PartColumns → Type 0
IsPartOf upload p = (is_sent_to upload p ≡ true) × (is_count p.part ≡ true)

parts_cmp : (upload : ℤ) (a b : PartColumns) → IsPartOf upload a → IsPartOf upload b → nat_cmp (unsigned_abs a.part) (unsigned_abs b.part) ≡ by_part a b
parts_cmp upload a b one two =
    cmp_pos (unsigned_abs a.part) (unsigned_abs b.part) ∙ ap₂ int_cmp (sym (count_pos_abs a.part one.1)) (sym (count_pos_abs b.part two.1))

parts_apart : (upload : ℤ) (a b : PartColumns) → IsPartOf upload a → IsPartOf upload b → same_part a b ≡ false → is_eq (nat_cmp (unsigned_abs a.part) (unsigned_abs b.part)) ≡ false
parts_apart upload a b one two apart =
    let sent : is_sent_to b.upload a ≡ true = same_key a.upload b.upload (same_int a.upload upload one.0 ∙ sym (same_int b.upload upload two.0)) in
    ap is_eq (parts_cmp upload a b one two) ∙ ap (λ c. c && int_eq a.part b.part) (sym sent) ∙ apart

pub rows_tell_parts : RowsTellParts
unfolding parts_of
rows_tell_parts e t bucket key id u s found =
    ap parts_sent (rows_tell_upload e t bucket key id s ∙ ap (option_map (upload_of e t.parts)) found)
    ∙ entries-collected nat_cmp nat_cmp_total (λ p. unsigned_abs p.part) (part_of e) (filter (is_sent_to u.row) t.parts)
    (ascending_among (IsPartOf u.row) (λ a b. same_part a b ≡ false) (λ a b. is_eq (nat_cmp (unsigned_abs a.part) (unsigned_abs b.part)) ≡ false) (parts_apart u.row) (filter (is_sent_to u.row) t.parts) all
    (ascending-filter (λ a b. same_part a b ≡ false) (is_sent_to u.row) t.parts s.parts.numbers))
    ∙ ap (map (numbered_part e)) (sort_agreeing (IsPartOf u.row) (λ a b. nat_cmp (unsigned_abs a.part) (unsigned_abs b.part)) by_part (parts_cmp u.row) (filter (is_sent_to u.row) t.parts) all).0
  where
    all : AllByRecursion (IsPartOf u.row) (filter (is_sent_to u.row) t.parts)
    all = all_passing (IsPartOf u.row) (is_sent_to u.row) t.parts (all_weaker (λ p. is_part_row p ≡ true) (λ p. is_sent_to u.row p ≡ true → IsPartOf u.row p)
        (λ p fits sent. (sent, part_counts p.part (and_parts (int_le (pos 1) p.part && int_le p.part (pos 10000)) _ fits).0)) t.parts (recursion_from_All (λ p. is_part_row p ≡ true) t.parts s.parts.fit))
