-- A sort of rows in the order of their rowids needs no rowid in its order.
use Rattle.std.proofs.Common.{◌≡◌, ℤ, ◌<ℤ◌, true, false, cond, List, [], ◌∷◌, refl, ap, ◌∙◌, Ordering, Less, Equal, Greater, int_cmp}
use Rattle.std.specs.List.{AllByRecursion}
use Rattle.std.specs.Ordering.{is_gt, ordering_then}
use Rattle.sqlite_keyed.specs.Keyed.{IsKeyedBy}
use Rattle.sqlite_keyed.specs.Lists.{sort_by, insert_sorted}
use Rattle.sqlite_keyed.proofs.KeyedLemmas.{Less-from_lt}

same_gt : (o u : Ordering) → u ≡ Less → is_gt (ordering_then o u) ≡ is_gt o
same_gt Less u h = refl
same_gt Equal u h = ap is_gt h
same_gt Greater u h = refl

module _ {X : Type 0} (row : X → ℤ) (cmp : X → X → Ordering) where
  -- the order, and by rowid where it has a tie
  abbrev pub with_row : X → X → Ordering
  with_row a b = ordering_then (cmp a b) (int_cmp (row a) (row b))

  all_inserted : (P : X → Type 0) (x : X) (ys : List X) → P x → AllByRecursion P ys → AllByRecursion P (insert_sorted cmp x ys)
  all_inserted P x [] h all = (h, tt)
  all_inserted P x (y ∷ ys) h all =
      elim (is_gt (cmp x y)) as (λ b. AllByRecursion P (cond b (y ∷ insert_sorted cmp x ys) (x ∷ y ∷ ys))) [ true ↦ (all.0, all_inserted P x ys h all.1) | false ↦ (h, all) ]

  all_sorted : (P : X → Type 0) (xs : List X) → AllByRecursion P xs → AllByRecursion P (sort_by cmp xs)
  all_sorted P [] all = tt
  all_sorted P (x ∷ xs) all = all_inserted P x (sort_by cmp xs) all.0 (all_sorted P xs all.1)

  same_insert : (x : X) (ys : List X) → AllByRecursion (λ y. row x <ℤ row y) ys → insert_sorted with_row x ys ≡ insert_sorted cmp x ys
  same_insert x [] all = refl
  same_insert x (y ∷ ys) all = rw (same_gt (cmp x y) (int_cmp (row x) (row y)) (Less-from_lt (row x) (row y) all.0), same_insert x ys all.1)

  pub sort_with_row : (xs : List X) → IsKeyedBy row xs → sort_by with_row xs ≡ sort_by cmp xs
  sort_with_row [] keyed = refl
  sort_with_row (x ∷ xs) keyed = ap (insert_sorted with_row x) (sort_with_row xs keyed.1) ∙ same_insert x (sort_by cmp xs) (all_sorted (λ y. row x <ℤ row y) xs keyed.0)
