-- Lists in order: an element against each behind it.
use Rattle.std.proofs.Common.{◌≡◌, ◌≢◌, refl, sym, ap, subst, ◌∙◌, true, false, ℕ, zero, suc, ◌<◌, List, [], ◌∷◌, ◌++◌, length, Contains, arith, add-one}
use Rattle.std.proofs.lemmas.Bool.{false≢true}
use Rattle.std.proofs.lemmas.Cmp.{upto}
use Rattle.std.specs.Cmp.{IsTotalOrder}
use Rattle.std.specs.List.Sorted.{IsSorted}
use Rattle.std.specs.Ordering.{is_gt, is_lt, ordering_reverse}
use Rattle.std.specs.declared.cmp.Ordering.{Ordering}
use Rattle.std.specs.declared.cmp.Ordering.TheVariants.{Less, Equal, Greater}
use Rattle.s3_rule_laws.specs.Sorting.{IsInOrder}

-- ---- what stands in a list

pub nothing_held : {X : Type 0} (x : X) → ¬ Contains [] x
nothing_held x (k, within, is) = absurd (omega arith)

pub held_first : {X : Type 0} (x y : X) (xs : List X) → y ≡ x → Contains (y ∷ xs) x
held_first x y xs is = (zero, omega arith, is)

next_below : (k n : ℕ) → k < n → suc k < suc n
next_below k n below = omega arith

pub held_later : {X : Type 0} (x y : X) (xs : List X) → Contains xs x → Contains (y ∷ xs) x
held_later x y xs held = (suc held.0, next_below held.0 (length xs) held.1, held.2)

-- ---- answers of a comparison

pub not_greater : (o : Ordering) → is_gt o ≡ false → o ≢ Greater
not_greater o is same = false≢true (sym is ∙ ap is_gt same)

pub gt_from_not : (o : Ordering) → o ≢ Greater → is_gt o ≡ false
gt_from_not Less other = refl
gt_from_not Equal other = refl
gt_from_not Greater other = absurd (other refl)

pub gt_back : (o : Ordering) → is_gt o ≡ true → is_gt (ordering_reverse o) ≡ false
gt_back Less is = absurd (false≢true is)
gt_back Equal is = absurd (false≢true is)
gt_back Greater is = refl

pub lt_back : (o : Ordering) → is_gt o ≡ false → is_lt (ordering_reverse o) ≡ false
lt_back Less is = refl
lt_back Equal is = refl
lt_back Greater is = absurd (false≢true (sym is))

-- ---- an element against each of a list

abbrev pub AllAtLeast : {X : Type 0} → (X → X → Ordering) → X → List X → Type 0
AllAtLeast cmp x [] = Unit {0}
AllAtLeast cmp x (y ∷ ys) = (is_gt (cmp x y) ≡ false) × AllAtLeast cmp x ys

abbrev pub Ascends : {X : Type 0} → (X → X → Ordering) → List X → Type 0
Ascends cmp [] = Unit {0}
Ascends cmp (x ∷ xs) = AllAtLeast cmp x xs × Ascends cmp xs

module _ {X : Type 0} (cmp : X → X → Ordering) where
  at_least_held : (x : X) (ys : List X) → AllAtLeast cmp x ys → (y : X) → Contains ys y → is_gt (cmp x y) ≡ false
  at_least_held x [] all y held = absurd (nothing_held y held)
  at_least_held x (z ∷ ys) all y (zero, within, is) = ap (λ v. is_gt (cmp x v)) (sym is) ∙ all.0
  at_least_held x (z ∷ ys) all y (suc k, within, is) = at_least_held x ys all.1 y (k, omega arith, is)

  at_least_from : (x : X) (ys : List X) → ((y : X) → Contains ys y → cmp x y ≢ Greater) → AllAtLeast cmp x ys
  at_least_from x [] each = tt
  at_least_from x (y ∷ ys) each =
      (gt_from_not (cmp x y) (each y (held_first y y ys refl)), at_least_from x ys (λ z held. each z (held_later z y ys held)))

  ascends_at : (front : List X) (x : X) (rest : List X) → Ascends cmp (front ++ x ∷ rest) → AllAtLeast cmp x rest
  ascends_at [] x rest up = up.0
  ascends_at (f ∷ front) x rest up = ascends_at front x rest up.1

  pub order_from_ascent : (xs : List X) → Ascends cmp xs → IsInOrder cmp xs
  order_from_ascent xs up front rest x y split held =
      not_greater (cmp x y) (at_least_held x rest (ascends_at front x rest (subst (Ascends cmp) split up)) y held)

  pub ascent_from_order : (xs : List X) → IsInOrder cmp xs → Ascends cmp xs
  ascent_from_order [] order = tt
  ascent_from_order (x ∷ xs) order = (
    at_least_from x xs (λ y held. order [] xs x y refl held),
    ascent_from_order xs (λ front rest y z split held. order (x ∷ front) rest y z (ap (λ ys. x ∷ ys) split) held),
  )

  module _ (total : IsTotalOrder cmp) where
    -- what is greater is not below
    pub one_way : (x y : X) → is_gt (cmp x y) ≡ true → is_gt (cmp y x) ≡ false
    one_way x y is = ap is_gt (total.antisymm y x) ∙ gt_back (cmp x y) is

    pub at_least_below : (x y : X) (ys : List X) → is_gt (cmp x y) ≡ false → AllAtLeast cmp y ys → AllAtLeast cmp x ys
    at_least_below x y [] le all = tt
    at_least_below x y (z ∷ ys) le all = (upto total x y z le all.0, at_least_below x y ys le all.1)

    -- so neighbours are in order
    pub sorted_from_ascent : (xs : List X) → Ascends cmp xs → IsSorted cmp xs
    sorted_from_ascent [] up k d low high = absurd (omega arith)
    sorted_from_ascent (x ∷ []) up k d low high = absurd (omega arith)
    sorted_from_ascent (x ∷ y ∷ ys) up zero d low high = ap is_lt (total.antisymm y x) ∙ lt_back (cmp x y) up.0.0
    sorted_from_ascent (x ∷ y ∷ ys) up (suc k) d low high =
        rw add-one (rw add-one at (sorted_from_ascent (y ∷ ys) up.1 k d (omega arith) (omega arith)))
