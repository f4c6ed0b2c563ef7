-- What is found in lists of rows after rows were put in and taken out.
use Rattle.std.proofs.Common.{◌≡◌, refl, sym, ap, subst, ◌∙◌, ℤ, Bool, true, false, not, cond, ◌&&◌, ◌||◌, List, [], ◌∷◌, filter, find, Option, Some, None, is_some, option_map, arith, Ordering, Less, Equal, Greater, slice_get, int_cmp, int_eq, true≢false}
use Rattle.std.proofs.lemmas.Int.{ints}
use Rattle.std.specs.List.{AllByRecursion, list_any}
use Rattle.std.specs.Ordering.{match_ordering}
use Rattle.sqlite_keyed.specs.Keyed.{insert_by, has_key}
use Rattle.sqlite_keyed.specs.Lists.{delete_where}
use Rattle.sqlite_keyed.proofs.KeyedLemmas.{filter-insert_by}
use Rattle.sqlite_keyed.proofs.ListLemmas.{slice_get-filter, filter-filter}

pub same_key : (a b : ℤ) → a ≡ b → int_eq a b ≡ true
same_key a b same = grind (arith, ints)

-- what is found passes
pub find_passes : {X : Type 0} (p : X → Bool) (xs : List X) (x : X) → find p xs ≡ Some x → p x ≡ true
find_passes p [] x found = cc
find_passes {X} p (y ∷ xs) x found = go (p y) refl found (find_passes p xs x)
  where
    go : (b : Bool) → p y ≡ b → cond b (Some y) (find p xs) ≡ Some x → (find p xs ≡ Some x → p x ≡ true) → p x ≡ true
    go true is e more = let same : y ≡ x = cc in subst (λ z. p z ≡ true) same is
    go false is e more = more e

-- and has what all rows have
pub find_has : {X : Type 0} (P : X → Type 0) (p : X → Bool) (xs : List X) (x : X) → AllByRecursion P xs → find p xs ≡ Some x → P x
find_has P p [] x all found = cc
find_has {X} P p (y ∷ xs) x all found = go (p y) found (find_has P p xs x all.1)
  where
    go : (b : Bool) → cond b (Some y) (find p xs) ≡ Some x → (find p xs ≡ Some x → P x) → P x
    go true e more = let same : y ≡ x = cc in subst P same all.0
    go false e more = more e

-- two tests that agree at all rows keep the same
pub filter_agreeing : {X : Type 0} (p q : X → Bool) (xs : List X) → AllByRecursion (λ x. p x ≡ q x) xs → filter p xs ≡ filter q xs
filter_agreeing p q [] all = refl
filter_agreeing p q (x ∷ xs) all = ap (λ b. cond b (x ∷ filter p xs) (filter p xs)) all.0 ∙ ap (λ l. cond (q x) (x ∷ l) l) (filter_agreeing p q xs all.1)

pub filter_alike : {X : Type 0} (p q : X → Bool) → ((x : X) → p x ≡ q x) → (xs : List X) → filter p xs ≡ filter q xs
filter_alike p q same [] = refl
filter_alike p q same (x ∷ xs) = ap (λ b. cond b (x ∷ filter p xs) (filter p xs)) (same x) ∙ ap (λ l. cond (q x) (x ∷ l) l) (filter_alike p q same xs)

-- one test and then another
pub filter_both : {X : Type 0} (p q : X → Bool) (xs : List X) → filter (λ x. p x && q x) xs ≡ filter q (filter p xs)
filter_both p q [] = refl
filter_both p q (x ∷ xs) =
    elim (p x) as (λ b. cond (b && q x) (x ∷ filter (λ y. p y && q y) xs) (filter (λ y. p y && q y) xs) ≡ filter q (cond b (x ∷ filter p xs) (filter p xs))) [
      | true ↦ ap (λ l. cond (q x) (x ∷ l) l) (filter_both p q xs)
      | false ↦ filter_both p q xs
    ]

-- of rows that pass, those that also pass another test are taken out
pub filter_taken : {X : Type 0} (p q : X → Bool) (xs : List X) → filter p (delete_where (λ x. p x && q x) xs) ≡ delete_where q (filter p xs)
filter_taken p q [] = refl
filter_taken {X} p q (x ∷ xs) = go (p x) (q x) refl refl (filter_taken p q xs)
  where
    go : (a b : Bool) → p x ≡ a → q x ≡ b → filter p (delete_where (λ y. p y && q y) xs) ≡ delete_where q (filter p xs)
        → filter p (cond (not (a && b)) (x ∷ delete_where (λ y. p y && q y) xs) (delete_where (λ y. p y && q y) xs)) ≡ filter (λ y. not (q y)) (cond a (x ∷ filter p xs) (filter p xs))
    go true true s t more = more ∙ sym (ap (λ c. cond (not c) (x ∷ filter (λ y. not (q y)) (filter p xs)) (filter (λ y. not (q y)) (filter p xs))) t)
    go true false s t more =
        ap (λ c. cond c (x ∷ filter p (delete_where (λ y. p y && q y) xs)) (filter p (delete_where (λ y. p y && q y) xs))) s ∙ ap (λ l. x ∷ l) more
        ∙ sym (ap (λ c. cond (not c) (x ∷ filter (λ y. not (q y)) (filter p xs)) (filter (λ y. not (q y)) (filter p xs))) t)
    go false b s t more = ap (λ c. cond c (x ∷ filter p (delete_where (λ y. p y && q y) xs)) (filter p (delete_where (λ y. p y && q y) xs))) s ∙ more

-- rows that are taken out elsewhere
pub filter_elsewhere : {X : Type 0} (p q : X → Bool) → ((x : X) → p x ≡ true → q x ≡ false) → (xs : List X) → filter p (delete_where q xs) ≡ filter p xs
filter_elsewhere p q apart xs = filter-filter p (λ x. not (q x)) (λ x is. ap not (apart x is)) xs

pub find_elsewhere : {X : Type 0} (p q : X → Bool) → ((x : X) → p x ≡ true → q x ≡ false) → (xs : List X) → find p (delete_where q xs) ≡ find p xs
find_elsewhere p q apart xs = sym (slice_get-filter p (delete_where q xs)) ∙ ap (λ l. slice_get l 0) (filter_elsewhere p q apart xs) ∙ slice_get-filter p xs

pub filter_gone : {X : Type 0} (p q : X → Bool) → ((x : X) → p x ≡ true → q x ≡ true) → (xs : List X) → filter p (delete_where q xs) ≡ []
filter_gone p q all [] = refl
filter_gone {X} p q all (x ∷ xs) = go (q x) (p x) refl refl (filter_gone p q all xs)
  where
    go : (a b : Bool) → q x ≡ a → p x ≡ b → filter p (delete_where q xs) ≡ [] → filter p (cond (not a) (x ∷ delete_where q xs) (delete_where q xs)) ≡ []
    go true b s t more = more
    go false true s t more = absurd (true≢false (sym (all x t) ∙ s))
    go false false s t more = ap (λ c. cond c (x ∷ filter p (delete_where q xs)) (filter p (delete_where q xs))) t ∙ more

pub find_gone : {X : Type 0} (p q : X → Bool) → ((x : X) → p x ≡ true → q x ≡ true) → (xs : List X) → find p (delete_where q xs) ≡ None
find_gone p q all xs = sym (slice_get-filter p (delete_where q xs)) ∙ ap (λ l. slice_get l 0) (filter_gone p q all xs)

module _ {X : Type 0} (key : X → ℤ) where
  pub find_put_elsewhere : (p : X → Bool) (xs : List X) (new : X) → has_key key xs (key new) ≡ false → p new ≡ false → find p (insert_by key xs new) ≡ find p xs
  find_put_elsewhere p xs new free fails = sym (slice_get-filter p (insert_by key xs new)) ∙ ap (λ l. slice_get l 0) (filter-insert_by key p xs new free fails) ∙ slice_get-filter p xs

  -- a new row is found where none was
  pub find_put : (p : X → Bool) (xs : List X) (new : X) → p new ≡ true → find p xs ≡ None → find p (insert_by key xs new) ≡ Some new
  find_put p [] new passes none = ap (λ b. cond b (Some new) None) passes
  find_put p (x ∷ xs) new passes none = go (int_cmp (key x) (key new)) (p x) refl none (λ h. find_put p xs new passes h)
    where
      go : (o : Ordering) (b : Bool) → p x ≡ b → cond b (Some x) (find p xs) ≡ None → (find p xs ≡ None → find p (insert_by key xs new) ≡ Some new)
          → find p (match_ordering o (x ∷ insert_by key xs new) (new ∷ xs) (new ∷ x ∷ xs)) ≡ Some new
      go Less true is e more = cc
      go Less false is e more = ap (λ b. cond b (Some x) (find p (insert_by key xs new))) is ∙ more e
      go Equal b is e more = ap (λ c. cond c (Some new) (find p xs)) passes
      go Greater b is e more = ap (λ c. cond c (Some new) (find p (x ∷ xs))) passes

  pub any_put : (p : X → Bool) (xs : List X) (new : X) → p new ≡ true → list_any p (insert_by key xs new) ≡ true
  any_put p [] new passes = ap (λ b. b || false) passes
  any_put p (x ∷ xs) new passes =
      elim (int_cmp (key x) (key new)) as (λ o. list_any p (match_ordering o (x ∷ insert_by key xs new) (new ∷ xs) (new ∷ x ∷ xs)) ≡ true) [
        | Less ↦ ap (λ b. p x || b) (any_put p xs new passes) ∙ elim (p x) as (λ b. (b || true) ≡ true) [ true ↦ refl | false ↦ refl ]
        | Equal ↦ ap (λ b. b || list_any p xs) passes
        | Greater ↦ ap (λ b. b || list_any p (x ∷ xs)) passes
      ]

pub find_both : {X : Type 0} (p q : X → Bool) (xs : List X) → find q (filter p xs) ≡ find (λ x. p x && q x) xs
find_both p q xs = sym (slice_get-filter q (filter p xs)) ∙ ap (λ l. slice_get l 0) (sym (filter_both p q xs)) ∙ slice_get-filter (λ x. p x && q x) xs

pub find_agreeing : {X : Type 0} (p q : X → Bool) (xs : List X) → AllByRecursion (λ x. p x ≡ q x) xs → find p xs ≡ find q xs
find_agreeing p q xs all = sym (slice_get-filter p xs) ∙ ap (λ l. slice_get l 0) (filter_agreeing p q xs all) ∙ slice_get-filter q xs

pub none_gone : {X : Type 0} (q : X → Bool) (xs : List X) → list_any q (delete_where q xs) ≡ false
none_gone q [] = refl
none_gone {X} q (x ∷ xs) = go (q x) refl (none_gone q xs)
  where
    go : (b : Bool) → q x ≡ b → list_any q (delete_where q xs) ≡ false → list_any q (cond (not b) (x ∷ delete_where q xs) (delete_where q xs)) ≡ false
    go true is more = more
    go false is more = ap (λ b. b || list_any q (delete_where q xs)) is ∙ more

-- what is told of a found row is one where the functions agree at it
pub found_as : {X Y : Type 0} (f g : X → Y) (p : X → Bool) (xs : List X) → ((x : X) → find p xs ≡ Some x → f x ≡ g x) → option_map f (find p xs) ≡ option_map g (find p xs)
found_as {X} {Y} f g p xs same = go (find p xs) refl
  where
    go : (o : Option X) → find p xs ≡ o → option_map f o ≡ option_map g o
    go None is = refl
    go (Some x) is = ap Some (same x is)

pub found_key : {X : Type 0} (key : X → ℤ) (q : X → Bool) (xs : List X) (x : X) → find q xs ≡ Some x → has_key key xs (key x) ≡ true
found_key key q [] x found = cc
found_key {X} key q (y ∷ xs) x found = go (q y) (int_eq (key y) (key x)) refl found (found_key key q xs x)
  where
    go : (a b : Bool) → int_eq (key y) (key x) ≡ b → cond a (Some y) (find q xs) ≡ Some x → (find q xs ≡ Some x → has_key key xs (key x) ≡ true)
        → is_some (cond b (Some y) (find (λ z. int_eq (key z) (key x)) xs)) ≡ true
    go a true is e more = refl
    go true false is e more = let same : y ≡ x = cc in absurd (true≢false (sym (same_key (key y) (key x) (ap key same)) ∙ is))
    go false false is e more = more e

pub has_key_left : {X : Type 0} (key : X → ℤ) (p : X → Bool) (xs : List X) (id : ℤ) → has_key key xs id ≡ false → has_key key (delete_where p xs) id ≡ false
has_key_left key p [] id none = none
has_key_left {X} key p (x ∷ xs) id none = go (p x) (int_eq (key x) id) refl none (has_key_left key p xs id)
  where
    go : (a b : Bool) → int_eq (key x) id ≡ b → is_some (cond b (Some x) (find (λ z. int_eq (key z) id) xs)) ≡ false → (has_key key xs id ≡ false → has_key key (delete_where p xs) id ≡ false)
        → has_key key (cond (not a) (x ∷ delete_where p xs) (delete_where p xs)) id ≡ false
    go a true is e more = absurd (true≢false e)
    go true false is e more = more e
    go false false is e more = ap (λ c. is_some (cond c (Some x) (find (λ z. int_eq (key z) id) (delete_where p xs)))) is ∙ more e
