-- A sorted list in two parts, of which the rows of one stand before all of the other.
use Rattle.std.proofs.Common.{◌≡◌, refl, sym, ap, ◌∙◌, Bool, true, false, cond, ◌||◌, List, [], ◌∷◌, ◌++◌, filter, Ordering, Less, Equal, Greater, is_gt}
use Rattle.std.specs.Cmp.{IsTotalOrder, tied_itself}
use Rattle.std.specs.List.{AllByRecursion}
use Rattle.std.specs.Ordering.{ordering_reverse}
use Rattle.sqlite_keyed.specs.Lists.{insert_sorted, sort_by}
use Rattle.sqlite_keyed.proofs.ListLemmas.{all_of}
use Rattle.s3_rows.proofs.SortedLemmas.{all_passing, all-sort_by}

module _ {X : Type 0} (cmp : X → X → Ordering) (x : X) where
  -- a row goes behind those that it is above
  put_past : (ys zs : List X) → AllByRecursion (λ y. cmp x y ≡ Greater) ys → insert_sorted cmp x (ys ++ zs) ≡ ys ++ insert_sorted cmp x zs
  put_past [] zs above = refl
  put_past (y ∷ ys) zs above = ap (λ o. cond (is_gt o) (y ∷ insert_sorted cmp x (ys ++ zs)) (x ∷ y ∷ ys ++ zs)) above.0 ∙ ap (λ l. y ∷ l) (put_past ys zs above.1)

  -- and before those that it is below
  put_before : (zs : List X) → AllByRecursion (λ y. cmp x y ≡ Less) zs → insert_sorted cmp x zs ≡ x ∷ zs
  put_before [] below = refl
  put_before (z ∷ zs) below = ap (λ o. cond (is_gt o) (z ∷ insert_sorted cmp x zs) (x ∷ z ∷ zs)) below.0

  -- among the first rows it goes where another order that agrees there puts it
  put_among : (other : X → X → Ordering) (ys zs : List X) → AllByRecursion (λ y. cmp x y ≡ other x y) ys → AllByRecursion (λ y. cmp x y ≡ Less) zs → insert_sorted cmp x (ys ++ zs) ≡ insert_sorted other x ys ++ zs
  put_among other [] zs agree below = put_before zs below
  put_among other (y ∷ ys) zs agree below =
      ap (λ o. cond (is_gt o) (y ∷ insert_sorted cmp x (ys ++ zs)) (x ∷ y ∷ ys ++ zs)) agree.0
      ∙ elim (is_gt (other x y)) as (λ b. cond b (y ∷ insert_sorted cmp x (ys ++ zs)) (x ∷ y ∷ ys ++ zs) ≡ cond b (y ∷ insert_sorted other x ys) (x ∷ y ∷ ys) ++ zs) [
        | true ↦ ap (λ l. y ∷ l) (put_among other ys zs agree.1 below)
        | false ↦ refl
      ]

less_equal : Less ≡ Equal → ⊥
less_equal is = cc

-- Rows that pass one of two tests, where those that pass the first stand before those that pass the second, and among
-- themselves as another order has them.
module _ {X : Type 0} (cmp inner : X → X → Ordering) (total : IsTotalOrder cmp) (inner_total : IsTotalOrder inner) (p q : X → Bool)
    (before : (x y : X) → p x ≡ true → q y ≡ true → cmp x y ≡ Less) (among : (x y : X) → p x ≡ true → p y ≡ true → cmp x y ≡ inner x y) where
  pub sort_by-parts : (xs : List X) → sort_by cmp (filter (λ x. p x || q x) xs) ≡ sort_by inner (filter p xs) ++ sort_by cmp (filter q xs)
  sort_by-parts [] = refl
  sort_by-parts (x ∷ xs) = go (p x) (q x) refl refl (sort_by-parts xs)
    where
      go : (a b : Bool) → p x ≡ a → q x ≡ b → sort_by cmp (filter (λ y. p y || q y) xs) ≡ sort_by inner (filter p xs) ++ sort_by cmp (filter q xs)
          → sort_by cmp (cond (a || b) (x ∷ filter (λ y. p y || q y) xs) (filter (λ y. p y || q y) xs)) ≡ sort_by inner (cond a (x ∷ filter p xs) (filter p xs)) ++ sort_by cmp (cond b (x ∷ filter q xs) (filter q xs))
      go true true is other more = absurd (less_equal (sym (before x x is other) ∙ tied_itself total x))
      go true false is other more =
          ap (insert_sorted cmp x) more
          ∙ put_among cmp x inner (sort_by inner (filter p xs)) (sort_by cmp (filter q xs))
          (all-sort_by inner inner_total (λ y. cmp x y ≡ inner x y) (filter p xs) (all_passing (λ y. cmp x y ≡ inner x y) p xs (all_of (λ y. p y ≡ true → cmp x y ≡ inner x y) (λ y passes. among x y is passes) xs)))
          (all-sort_by cmp total (λ y. cmp x y ≡ Less) (filter q xs) (all_passing (λ y. cmp x y ≡ Less) q xs (all_of (λ y. q y ≡ true → cmp x y ≡ Less) (λ y passes. before x y is passes) xs)))
      go false true is other more =
          ap (insert_sorted cmp x) more
          ∙ put_past cmp x (sort_by inner (filter p xs)) (sort_by cmp (filter q xs))
          (all-sort_by inner inner_total (λ y. cmp x y ≡ Greater) (filter p xs) (all_passing (λ y. cmp x y ≡ Greater) p xs (all_of (λ y. p y ≡ true → cmp x y ≡ Greater)
          (λ y passes. total.antisymm x y ∙ ap ordering_reverse (before y x passes other)) xs)))
      go false false is other more = more
