-- The numbers of a row are among those that rows name.
use Rattle.std.proofs.Common.{◌≡◌, sym, subst, ℕ, ◌<◌, ◌≤◌, List, [], ◌∷◌, ◌++◌, Bool, true, find, filter, Option, Some, None, slice_get, cond, false, Ordering, arith, option_map}
use Rattle.std.specs.Prelude.{All, IfSome}
use Rattle.std.specs.List.{AllByRecursion, flat_map}
use Rattle.std.proofs.lemmas.List.Elements.{All-from_recursion}
use Rattle.sqlite_keyed.specs.Lists.{sort_by}
use Rattle.sqlite_keyed.proofs.ListLemmas.{all-filter}
use Rattle.s3_stored_bodies.specs.Numbers.{times}
use Rattle.s3_stored_bodies.proofs.NumberLemmas.{times-append}
use Rattle.s3_rows.specs.Columns.{VersionColumns, Tables}
use Rattle.s3_stored_rows.specs.Bodies.{version_numbers, part_numbers, numbers_named}
use Rattle.s3_stored_rows.specs.Changes.{version_columns}
use Rattle.s3_stored_rows.specs.declared.rows.StoredVersion.{StoredVersion}
use Rattle.s3_table_records.proofs.SameBytesLemmas.{all_standing, all_sorted}

-- numbers stand in a list as often as in another, or more rarely
abbrev pub IsAmong : List ℕ → List ℕ → Type 0
IsAmong xs ys = (n : ℕ) → times n xs ≤ times n ys

weaker : {X : Type 0} (f : X → List ℕ) (ys zs : List ℕ) → IsAmong ys zs → (xs : List X) → AllByRecursion (λ x. IsAmong (f x) ys) xs → AllByRecursion (λ x. IsAmong (f x) zs) xs
weaker f ys zs more [] all = cc
weaker f ys zs more (x ∷ xs) all = ((λ n. omega (arith, all.0 n, more n)), weaker f ys zs more xs all.1)

all_among : {X : Type 0} (f : X → List ℕ) (xs : List X) → AllByRecursion (λ x. IsAmong (f x) (flat_map f xs)) xs
all_among f [] = cc
all_among f (x ∷ xs) =
    ((λ n. omega (arith, times-append n (f x) (flat_map f xs))), weaker f (flat_map f xs) (f x ++ flat_map f xs) (λ n. omega (arith, times-append n (f x) (flat_map f xs))) xs (all_among f xs))

pub versions_counted : (t : Tables) → AllByRecursion (λ v. IsAmong (version_numbers v) (numbers_named t)) t.versions
unfolding numbers_named
versions_counted t =
    weaker version_numbers (flat_map version_numbers t.versions) (flat_map version_numbers t.versions ++ flat_map part_numbers t.parts)
    (λ n. omega (arith, times-append n (flat_map version_numbers t.versions) (flat_map part_numbers t.parts))) t.versions (all_among version_numbers t.versions)

pub parts_counted : (t : Tables) → AllByRecursion (λ p. IsAmong (part_numbers p) (numbers_named t)) t.parts
unfolding numbers_named
parts_counted t =
    weaker part_numbers (flat_map part_numbers t.parts) (flat_map version_numbers t.versions ++ flat_map part_numbers t.parts)
    (λ n. omega (arith, times-append n (flat_map version_numbers t.versions) (flat_map part_numbers t.parts))) t.parts (all_among part_numbers t.parts)

-- what holds of all holds of the one that is found, and of the first of those that are sorted
pub found_has : {X : Type 0} (P : X → Type 0) (p : X → Bool) (xs : List X) → AllByRecursion P xs → IfSome (find p xs) P
found_has P p [] all = cc
found_has P p (x ∷ xs) all = elim (p x) as (λ b. IfSome (cond b (Some x) (find p xs)) P) [ true ↦ all.0 | false ↦ found_has P p xs all.1 ]

first_has : {X : Type 0} (P : X → Type 0) (xs : List X) → AllByRecursion P xs → IfSome (slice_get xs 0) P
first_has P [] all = cc
first_has P (x ∷ xs) all = all.0

pub first_sorted_has : {X : Type 0} (P : X → Type 0) (cmp : X → X → Ordering) (p : X → Bool) (xs : List X) → AllByRecursion P xs → IfSome (slice_get (sort_by cmp (filter p xs)) 0) P
first_sorted_has P cmp p xs all = first_has P (sort_by cmp (filter p xs)) (all_sorted P cmp (filter p xs) (all-filter P p xs all))

-- a number that is among those that are counted is counted
pub all_counted : (uses : ℕ → ℕ) (named numbers : List ℕ) → ((n : ℕ) → uses n ≡ times n named) → IsAmong numbers named → All (λ n. 0 < uses n) numbers
all_counted uses named numbers counts among =
    All-from_recursion (λ n. 0 < uses n) numbers (all_standing (λ n. 0 < uses n) numbers (λ n is. omega (arith, among n, counts n)))

-- and of a row whose columns are found
pub if_columns : (P : VersionColumns → Type 0) (found : Option StoredVersion) (columns : Option VersionColumns) → option_map version_columns found ≡ columns → IfSome columns P → IfSome found (λ v. P (version_columns v))
if_columns P None columns is has = cc
if_columns P (Some v) columns is has = subst (λ o. IfSome o P) (sym is) has
