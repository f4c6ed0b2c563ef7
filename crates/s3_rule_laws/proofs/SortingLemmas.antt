-- What sorting gives.
use Rattle.std.proofs.Common.{◌≡◌, refl, sym, ap, ap₂, subst, ◌∙◌, Bool, true, false, not, ◌&&◌, cond, List, [], ◌∷◌, filter, get_or, IsPermutation, ⊎_elim}
use Rattle.std.proofs.lemmas.Bool.{cases_Bool, cond-true, cond-false, false≢true}
use Rattle.std.proofs.lemmas.Cmp.{tied_itself, alike_right}
use Rattle.std.proofs.lemmas.List.Elements.{filter_agree}
use Rattle.std.proofs.lemmas.List.Sorted.{IsPermutation-refl, IsPermutation-cons, IsPermutation-trans, IsPermutation-middle}
use Rattle.std.specs.Cmp.{IsTotalOrder}
use Rattle.std.specs.List.Sorted.{IsStable, ties}
use Rattle.std.specs.Ordering.{is_gt, is_lt, is_eq, ordering_reverse}
use Rattle.std.specs.declared.cmp.Ordering.{Ordering}
use Rattle.std.specs.declared.cmp.Ordering.TheVariants.{Less, Equal, Greater}
use Rattle.s3_text.specs.Sorting.{insert_by, sorted_by}
use Rattle.s3_text.proofs.SortingLemmas.{sorted_by-unique}
use Rattle.s3_rule_laws.specs.Sorting.{SortingKeepsElements, SortingMakesOrder, SortingKeepsTies, OneListIsStable, OneListIsInOrder, OrderBeforeIsForgotten}
use Rattle.s3_rule_laws.proofs.OrderLemmas.{AllAtLeast, Ascends, order_from_ascent, ascent_from_order, one_way, at_least_below, sorted_from_ascent}

is_equal : (o : Ordering) → is_eq o ≡ true → o ≡ Equal
is_equal Less is = absurd (false≢true is)
is_equal Equal is = refl
is_equal Greater is = absurd (false≢true is)

equal_not_gt : (o : Ordering) → is_eq o ≡ true → is_gt o ≡ false
equal_not_gt Less is = refl
equal_not_gt Equal is = refl
equal_not_gt Greater is = absurd (false≢true is)

neither_greater : (o : Ordering) → is_gt o ≡ false → is_gt (ordering_reverse o) ≡ false → o ≡ Equal
neither_greater Less h k = absurd (false≢true (sym k))
neither_greater Equal h k = refl
neither_greater Greater h k = absurd (false≢true (sym h))

ties_equal : (o : Ordering) → (not (is_lt o) && not (is_lt (ordering_reverse o))) ≡ is_eq o
ties_equal Less = refl
ties_equal Equal = refl
ties_equal Greater = refl

-- lists with a first element
head_same : {X : Type 0} (x y : X) (xs ys : List X) → x ∷ xs ≡ y ∷ ys → x ≡ y
head_same x y xs ys same = ap (λ zs. get_or zs 0 x) same

abbrev tail_of : {X : Type 0} → List X → List X
tail_of [] = []
tail_of (x ∷ xs) = xs

tail_same : {X : Type 0} (x y : X) (xs ys : List X) → x ∷ xs ≡ y ∷ ys → xs ≡ ys
tail_same x y xs ys same = ap tail_of same

abbrev is_empty : {X : Type 0} → List X → Bool
is_empty [] = true
is_empty (x ∷ xs) = false

empty_or_more : {X : Type 0} (x : X) (xs : List X) → [] ≡ x ∷ xs → ⊥
empty_or_more x xs same = false≢true (sym (ap is_empty same))

rest_kept : {X : Type 0} (b : Bool) (x : X) (f g : List X) → cond b (x ∷ f) f ≡ cond b (x ∷ g) g → f ≡ g
rest_kept true x f g same = tail_same x x f g same
rest_kept false x f g same = same

-- two that aren't both kept are kept in either order
kept_either : {X : Type 0} (a b : Bool) (x y : X) (f : List X) → (a ≡ true → b ≡ true → ⊥)
    → cond b (y ∷ cond a (x ∷ f) f) (cond a (x ∷ f) f) ≡ cond a (x ∷ cond b (y ∷ f) f) (cond b (y ∷ f) f)
kept_either true true x y f apart = absurd (apart refl refl)
kept_either true false x y f apart = refl
kept_either false true x y f apart = refl
kept_either false false x y f apart = refl

module _ {X : Type 0} (cmp : X → X → Ordering) where
  pub past : (x y : X) (ys : List X) → is_gt (cmp x y) ≡ true → insert_by cmp x (y ∷ ys) ≡ y ∷ insert_by cmp x ys
  past x y ys gt = cond-true _ _ _ gt

  pub here : (x y : X) (ys : List X) → is_gt (cmp x y) ≡ false → insert_by cmp x (y ∷ ys) ≡ x ∷ y ∷ ys
  here x y ys le = cond-false _ _ _ le

  -- ---- the elements

  inserted_elements : (x : X) (ys : List X) → IsPermutation (x ∷ ys) (insert_by cmp x ys)
  inserted_elements x [] = IsPermutation-refl (x ∷ [])
  inserted_elements x (y ∷ ys) =
      ⊎_elim
      (λ gt. subst (IsPermutation (x ∷ y ∷ ys)) (sym (past x y ys gt))
      (IsPermutation-trans (x ∷ y ∷ ys) (y ∷ x ∷ ys) (y ∷ insert_by cmp x ys) (IsPermutation-middle (x ∷ []) y ys)
      (IsPermutation-cons y (x ∷ ys) (insert_by cmp x ys) (inserted_elements x ys))))
      (λ le. subst (IsPermutation (x ∷ y ∷ ys)) (sym (here x y ys le)) (IsPermutation-refl (x ∷ y ∷ ys)))
      (cases_Bool (is_gt (cmp x y)))

  pub sorted_elements : (xs : List X) → IsPermutation xs (sorted_by cmp xs)
  unfolding sorted_by
  sorted_elements [] = IsPermutation-refl []
  sorted_elements (x ∷ xs) =
      IsPermutation-trans (x ∷ xs) (x ∷ sorted_by cmp xs) (insert_by cmp x (sorted_by cmp xs))
      (IsPermutation-cons x xs (sorted_by cmp xs) (sorted_elements xs)) (inserted_elements x (sorted_by cmp xs))

  -- those that tie with z, as they stand
  abbrev tied : X → List X → List X
  tied z xs = filter (λ y. is_eq (cmp z y)) xs

  module _ (total : IsTotalOrder cmp) where
    -- ---- the order

    at_least_inserted : (z x : X) (ys : List X) → is_gt (cmp z x) ≡ false → AllAtLeast cmp z ys → AllAtLeast cmp z (insert_by cmp x ys)
    at_least_inserted z x [] le all = (le, tt)
    at_least_inserted z x (y ∷ ys) le all =
        ⊎_elim
        (λ gt. subst (AllAtLeast cmp z) (sym (past x y ys gt)) (all.0, at_least_inserted z x ys le all.1))
        (λ not_gt. subst (AllAtLeast cmp z) (sym (here x y ys not_gt)) (le, all))
        (cases_Bool (is_gt (cmp x y)))

    inserted_ascends : (x : X) (ys : List X) → Ascends cmp ys → Ascends cmp (insert_by cmp x ys)
    inserted_ascends x [] up = (tt, tt)
    inserted_ascends x (y ∷ ys) up =
        ⊎_elim
        (λ gt. subst (Ascends cmp) (sym (past x y ys gt)) (at_least_inserted y x ys (one_way cmp total x y gt) up.0, inserted_ascends x ys up.1))
        (λ le. subst (Ascends cmp) (sym (here x y ys le)) ((le, at_least_below cmp total x y ys le up.0), up))
        (cases_Bool (is_gt (cmp x y)))

    pub sorted_ascends : (xs : List X) → Ascends cmp (sorted_by cmp xs)
    unfolding sorted_by
    sorted_ascends [] = tt
    sorted_ascends (x ∷ xs) = inserted_ascends x (sorted_by cmp xs) (sorted_ascends xs)

    -- ---- those that tie

    not_both : (z x y : X) → is_gt (cmp x y) ≡ true → is_eq (cmp z x) ≡ true → is_eq (cmp z y) ≡ true → ⊥
    not_both z x y gt first second =
        let same : cmp z y ≡ cmp x y = total.congr z x y (is_equal (cmp z x) first) in
        false≢true (sym (equal_not_gt (cmp x y) (ap is_eq (sym same) ∙ second)) ∙ gt)

    tied_inserted : (z x : X) (ys : List X) → tied z (insert_by cmp x ys) ≡ tied z (x ∷ ys)
    tied_inserted z x [] = refl
    tied_inserted z x (y ∷ ys) =
        ⊎_elim
        (λ gt. ap (tied z) (past x y ys gt)
        ∙ ap (λ r. cond (is_eq (cmp z y)) (y ∷ r) r) (tied_inserted z x ys)
        ∙ kept_either (is_eq (cmp z x)) (is_eq (cmp z y)) x y (tied z ys) (not_both z x y gt))
        (λ le. ap (tied z) (here x y ys le))
        (cases_Bool (is_gt (cmp x y)))

    tied_sorted : (z : X) (xs : List X) → tied z (sorted_by cmp xs) ≡ tied z xs
    unfolding sorted_by
    tied_sorted z [] = refl
    tied_sorted z (x ∷ xs) =
        tied_inserted z x (sorted_by cmp xs) ∙ ap (λ r. cond (is_eq (cmp z x)) (x ∷ r) r) (tied_sorted z xs)

    -- in the words of the tests
    tied_by : (z : X) (xs : List X) → filter (ties (λ x y. is_lt (cmp x y)) z) xs ≡ tied z xs
    tied_by z xs =
        filter_agree (ties (λ x y. is_lt (cmp x y)) z) (λ y. is_eq (cmp z y))
        (λ y. ap (λ o. not (is_lt (cmp z y)) && not (is_lt o)) (total.antisymm y z) ∙ ties_equal (cmp z y)) xs

    pub sorted_stable : (xs : List X) → IsStable cmp xs (sorted_by cmp xs)
    sorted_stable xs z = tied_by z (sorted_by cmp xs) ∙ tied_sorted z xs ∙ sym (tied_by z xs)

    -- ---- that no other list is so

    tied_head : (x : X) (xs : List X) → tied x (x ∷ xs) ≡ x ∷ tied x xs
    tied_head x xs = cond-true _ _ _ (ap is_eq (tied_itself total x))

    -- what ties with an element of a list is not below what is at most each
    at_most_tied : (x w v : X) (zs vs : List X) → AllAtLeast cmp x zs → tied w zs ≡ v ∷ vs → is_gt (cmp x w) ≡ false
    at_most_tied x w v [] vs all same = absurd (empty_or_more v vs same)
    at_most_tied x w v (z ∷ zs) vs all same =
        ⊎_elim
        (λ ties. ap is_gt (alike_right total w z x (is_equal (cmp w z) ties)) ∙ all.0)
        (λ apart. at_most_tied x w v zs vs all.1 (sym (cond-false _ _ _ apart) ∙ same))
        (cases_Bool (is_eq (cmp w z)))

    first_at_most : (x y : X) (xs ys : List X) → AllAtLeast cmp x xs → tied y (x ∷ xs) ≡ tied y (y ∷ ys) → is_gt (cmp x y) ≡ false
    first_at_most x y xs ys up same =
        at_most_tied x y y (x ∷ xs) (tied y ys) (ap is_gt (tied_itself total x), up) (same ∙ tied_head y ys)

    firsts_same : (x y : X) (xs ys : List X) → AllAtLeast cmp x xs → AllAtLeast cmp y ys → ((z : X) → tied z (x ∷ xs) ≡ tied z (y ∷ ys)) → x ≡ y
    firsts_same x y xs ys up over same =
        let le = first_at_most x y xs ys up (same y) in
        let ge = first_at_most y x ys xs over (sym (same x)) in
        let tie : cmp x y ≡ Equal = neither_greater (cmp x y) le (ap is_gt (sym (total.antisymm y x)) ∙ ge) in
        head_same x y (tied x xs) (tied x ys) (sym (tied_head x xs) ∙ same x ∙ cond-true _ _ _ (ap is_eq tie))

    one_list : (xs ys : List X) → Ascends cmp xs → Ascends cmp ys → ((z : X) → tied z xs ≡ tied z ys) → xs ≡ ys
    one_list [] [] up over same = refl
    one_list [] (y ∷ ys) up over same = absurd (empty_or_more y (tied y ys) (same y ∙ tied_head y ys))
    one_list (x ∷ xs) [] up over same = absurd (empty_or_more x (tied x xs) (sym (same x) ∙ tied_head x xs))
    one_list (x ∷ xs) (y ∷ ys) up over same =
        let first : x ≡ y = firsts_same x y xs ys up.0 over.0 same in
        let rest : (z : X) → tied z xs ≡ tied z ys = λ z.
        rest_kept (is_eq (cmp z x)) x (tied z xs) (tied z ys) (subst (λ v. tied z (x ∷ xs) ≡ tied z (v ∷ ys)) (sym first) (same z)) in
        ap₂ (λ v vs. v ∷ vs) first (one_list xs ys up.1 over.1 rest)

    pub one_stable : (xs ys : List X) → Ascends cmp ys → IsStable cmp xs ys → ys ≡ sorted_by cmp xs
    one_stable xs ys up stable =
        one_list ys (sorted_by cmp xs) up (sorted_ascends xs) (λ z. sym (tied_by z ys) ∙ stable z ∙ tied_by z xs ∙ sym (tied_sorted z xs))

-- ---- the laws

pub sorting_keeps_elements : {X : Type 0} → SortingKeepsElements X
sorting_keeps_elements cmp xs = sorted_elements cmp xs

pub sorting_makes_order : {X : Type 0} → SortingMakesOrder X
sorting_makes_order cmp total xs = order_from_ascent cmp (sorted_by cmp xs) (sorted_ascends cmp total xs)

pub sorting_keeps_ties : {X : Type 0} → SortingKeepsTies X
sorting_keeps_ties cmp total xs = sorted_stable cmp total xs

pub one_list_is_stable : {X : Type 0} → OneListIsStable X
one_list_is_stable cmp total xs ys order stable = one_stable cmp total xs ys (ascent_from_order cmp ys order) stable

pub one_list_is_in_order : {X : Type 0} → OneListIsInOrder X
one_list_is_in_order cmp total apart xs ys same order =
    sorted_by-unique cmp total apart xs ys same (sorted_from_ascent cmp total ys (ascent_from_order cmp ys order))

pub order_before_is_forgotten : {X : Type 0} → OrderBeforeIsForgotten X
order_before_is_forgotten cmp total apart xs ys same =
    one_list_is_in_order cmp total apart xs (sorted_by cmp ys)
    (IsPermutation-trans xs ys (sorted_by cmp ys) same (sorted_elements cmp ys))
    (sorting_makes_order cmp total ys)
