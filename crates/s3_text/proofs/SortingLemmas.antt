-- A list in order that has the elements of another is what sorting the other gives, where the order
-- tells any two elements apart.
use Rattle.std.proofs.Common.{◌≡◌, ◌≢◌, ℕ, suc, ◌+◌, ◌<◌, true, false, List, [], ◌∷◌, ◌++◌, map, length, take, drop, set, get_or, swap, refl, sym, ap, ap₂, ◌∙◌, arith, cond, IsPermutation, ⊎_elim, add-one}
use Rattle.std.specs.declared.cmp.Ordering.{Ordering}
use Rattle.std.specs.declared.cmp.Ordering.TheVariants.{Less, Equal, Greater}
use Rattle.std.specs.Ordering.{ordering_reverse, is_gt, is_lt, is_eq}
use Rattle.std.specs.Cmp.{IsTotalOrder}
use Rattle.std.specs.List.Sorted.{IsSorted}
use Rattle.std.proofs.lemmas.Cmp.{tied_itself, upto}
use Rattle.std.proofs.lemmas.Map.Lookups.{CmpEqualImpliesEq}
use Rattle.std.proofs.lemmas.List.{set_split, set-get_or, get_or-set_same, get_or-set_other, length-set, get_or-map, length-map}
use Rattle.std.proofs.lemmas.List.Sorted.{IsPermutation-keeps}
use Rattle.std.proofs.lemmas.Bool.{cases_Bool, cond-true, cond-false, cases_eq, false≢true}
use Rattle.s3_text.specs.Sorting.{insert_by, sorted_by}

-- an element goes past one that is below it, and stands before any other
past : {X : Type 0} (cmp : X → X → Ordering) (x y : X) (ys : List X) → is_gt (cmp x y) ≡ true → insert_by cmp x (y ∷ ys) ≡ y ∷ insert_by cmp x ys
past cmp x y ys gt = cond-true _ _ _ gt

here : {X : Type 0} (cmp : X → X → Ordering) (x y : X) (ys : List X) → is_gt (cmp x y) ≡ false → insert_by cmp x (y ∷ ys) ≡ x ∷ y ∷ ys
here cmp x y ys le = cond-false _ _ _ le

-- how many there are
length-insert_by : {X : Type 0} (cmp : X → X → Ordering) (x : X) (ys : List X) → length (insert_by cmp x ys) ≡ suc (length ys)
length-insert_by cmp x [] = refl
length-insert_by cmp x (y ∷ ys) =
    ⊎_elim
    (λ gt. ap length (past cmp x y ys gt) ∙ ap suc (length-insert_by cmp x ys))
    (λ le. ap length (here cmp x y ys le))
    (cases_Bool (is_gt (cmp x y)))

pub length-sorted_by : {X : Type 0} (cmp : X → X → Ordering) (xs : List X) → length (sorted_by cmp xs) ≡ length xs
unfolding sorted_by
length-sorted_by cmp [] = refl
length-sorted_by cmp (x ∷ xs) = length-insert_by cmp x (sorted_by cmp xs) ∙ ap suc (length-sorted_by cmp xs)

is_gt-back : (o : Ordering) → is_gt o ≡ true → is_gt (ordering_reverse o) ≡ false
is_gt-back Less h = absurd (false≢true h)
is_gt-back Equal h = absurd (false≢true h)
is_gt-back Greater h = refl

is_gt-reverse : (o : Ordering) → is_gt o ≡ is_lt (ordering_reverse o)
is_gt-reverse Less = refl
is_gt-reverse Equal = refl
is_gt-reverse Greater = refl

equal_from_neither : (o : Ordering) → is_gt o ≡ false → is_gt (ordering_reverse o) ≡ false → o ≡ Equal
equal_from_neither Less h k = absurd (false≢true (sym k))
equal_from_neither Equal h k = refl
equal_from_neither Greater h k = absurd (false≢true (sym h))

not_equal_from_gt : (o : Ordering) → is_gt o ≡ true → is_eq o ≡ false
not_equal_from_gt Less h = refl
not_equal_from_gt Equal h = absurd (false≢true h)
not_equal_from_gt Greater h = refl

-- the list without the first element that ties
abbrev remove_by : {X : Type 0} → (X → X → Ordering) → X → List X → List X
remove_by cmp x [] = []
remove_by cmp x (y ∷ ys) = cond (is_eq (cmp x y)) ys (y ∷ remove_by cmp x ys)

module _ {X : Type 0} (cmp : X → X → Ordering) (total : IsTotalOrder cmp) where
  -- what is greater is not below
  one_way : (x y : X) → is_gt (cmp x y) ≡ true → is_gt (cmp y x) ≡ false
  one_way x y gt = ap is_gt (total.antisymm y x) ∙ is_gt-back (cmp x y) gt

  -- taking an element out again gives the list back
  remove-insert : (x : X) (ys : List X) → remove_by cmp x (insert_by cmp x ys) ≡ ys
  remove-insert x [] = cond-true _ _ _ (ap is_eq (tied_itself total x))
  remove-insert x (y ∷ ys) =
      ⊎_elim
      (λ gt. ap (remove_by cmp x) (past cmp x y ys gt) ∙ cond-false _ _ _ (not_equal_from_gt (cmp x y) gt) ∙ ap (λ zs. y ∷ zs) (remove-insert x ys))
      (λ le. ap (remove_by cmp x) (here cmp x y ys le) ∙ cond-true _ _ _ (ap is_eq (tied_itself total x)))
      (cases_Bool (is_gt (cmp x y)))

  insert_cancel : (x : X) (ys zs : List X) → insert_by cmp x ys ≡ insert_by cmp x zs → ys ≡ zs
  insert_cancel x ys zs same = sym (remove-insert x ys) ∙ ap (remove_by cmp x) same ∙ remove-insert x zs

  -- a sorted list is what sorting gives
  sorted_by-sorted : (xs : List X) → IsSorted cmp xs → sorted_by cmp xs ≡ xs
  unfolding sorted_by
  sorted_by-sorted [] up = refl
  sorted_by-sorted (x ∷ []) up = refl
  sorted_by-sorted (x ∷ y ∷ ys) up =
      let tail : IsSorted cmp (y ∷ ys) = λ k d low high. rw add-one (rw add-one at (up (suc k) d (omega arith) (omega arith))) in
      ap (insert_by cmp x) (sorted_by-sorted (y ∷ ys) tail) ∙ here cmp x y ys (is_gt-reverse (cmp x y) ∙ ap is_lt (sym (total.antisymm y x)) ∙ up 0 x (omega arith) (omega arith))

  module _ (exact : CmpEqualImpliesEq cmp) where
    -- two elements go in in either order: it is enough to see it where one is greater
    either_order : (x y : X) (zs : List X) → (is_gt (cmp x y) ≡ true → insert_by cmp x (insert_by cmp y zs) ≡ insert_by cmp y (insert_by cmp x zs)) → (is_gt (cmp y x) ≡ true → insert_by cmp x (insert_by cmp y zs) ≡ insert_by cmp y (insert_by cmp x zs)) → insert_by cmp x (insert_by cmp y zs) ≡ insert_by cmp y (insert_by cmp x zs)
    either_order x y zs first_greater second_greater =
        ⊎_elim first_greater
        (λ le. ⊎_elim second_greater
        (λ ge.
        let same : x ≡ y = exact x y (equal_from_neither (cmp x y) le (ap is_gt (sym (total.antisymm y x)) ∙ ge)) in
        ap₂ (λ v w. insert_by cmp v (insert_by cmp w zs)) same (sym same))
        (cases_Bool (is_gt (cmp y x))))
        (cases_Bool (is_gt (cmp x y)))

    -- the first is above the head, and the second is not
    around_head : (x y z : X) (zs : List X) → is_gt (cmp x z) ≡ true → is_gt (cmp y z) ≡ false → insert_by cmp x (insert_by cmp y (z ∷ zs)) ≡ insert_by cmp y (insert_by cmp x (z ∷ zs))
    around_head x y z zs above below =
        let greater : is_gt (cmp x y) ≡ true = ⊎_elim (λ e. e) (λ le. absurd (false≢true (sym (upto total x y z le below) ∙ above))) (cases_Bool (is_gt (cmp x y))) in
        ap (insert_by cmp x) (here cmp y z zs below) ∙ past cmp x y (z ∷ zs) greater ∙ ap (λ ws. y ∷ ws) (past cmp x z zs above)
        ∙ sym (ap (insert_by cmp y) (past cmp x z zs above) ∙ here cmp y z (insert_by cmp x zs) below)

    -- neither is above the head, and the first is greater
    before_head : (x y z : X) (zs : List X) → is_gt (cmp x z) ≡ false → is_gt (cmp y z) ≡ false → is_gt (cmp x y) ≡ true → insert_by cmp x (insert_by cmp y (z ∷ zs)) ≡ insert_by cmp y (insert_by cmp x (z ∷ zs))
    before_head x y z zs first second greater =
        ap (insert_by cmp x) (here cmp y z zs second) ∙ past cmp x y (z ∷ zs) greater ∙ ap (λ ws. y ∷ ws) (here cmp x z zs first)
        ∙ sym (ap (insert_by cmp y) (here cmp x z zs first) ∙ here cmp y x (z ∷ zs) (one_way x y greater))

    insert_comm : (x y : X) (zs : List X) → insert_by cmp x (insert_by cmp y zs) ≡ insert_by cmp y (insert_by cmp x zs)
    insert_comm x y [] =
        either_order x y []
        (λ gt. past cmp x y [] gt ∙ sym (here cmp y x [] (one_way x y gt)))
        (λ gt. here cmp x y [] (one_way y x gt) ∙ sym (past cmp y x [] gt))
    insert_comm x y (z ∷ zs) =
        ⊎_elim
        (λ above. ⊎_elim
        (λ above2.
        ap (insert_by cmp x) (past cmp y z zs above2) ∙ past cmp x z (insert_by cmp y zs) above ∙ ap (λ ws. z ∷ ws) (insert_comm x y zs)
        ∙ sym (ap (insert_by cmp y) (past cmp x z zs above) ∙ past cmp y z (insert_by cmp x zs) above2))
        (λ below2. around_head x y z zs above below2)
        (cases_Bool (is_gt (cmp y z))))
        (λ below. ⊎_elim
        (λ above2. sym (around_head y x z zs above2 below))
        (λ below2. either_order x y (z ∷ zs) (before_head x y z zs below below2) (λ gt. sym (before_head y x z zs below2 below gt)))
        (cases_Bool (is_gt (cmp y z))))
        (cases_Bool (is_gt (cmp x z)))

    -- an element may as well come first
    sorted_by-middle : (xs : List X) (y : X) (ys : List X) → sorted_by cmp (xs ++ y ∷ ys) ≡ insert_by cmp y (sorted_by cmp (xs ++ ys))
    unfolding sorted_by
    sorted_by-middle [] y ys = refl
    sorted_by-middle (x ∷ xs) y ys = ap (insert_by cmp x) (sorted_by-middle xs y ys) ∙ insert_comm x y (sorted_by cmp (xs ++ ys))

    sorted_by-set : (xs : List X) (i : ℕ) (y : X) → i < length xs → sorted_by cmp (set xs i y) ≡ insert_by cmp y (sorted_by cmp (take i xs ++ drop (suc i) xs))
    sorted_by-set xs i y within = ap (sorted_by cmp) (set_split xs i y within) ∙ sorted_by-middle (take i xs) y (drop (suc i) xs)

    get_or-after_set : (xs : List X) (i j : ℕ) (d : X) → i < length xs → get_or (set xs i (get_or xs j d)) j d ≡ get_or xs j d
    get_or-after_set xs i j d within =
        ⊎_elim
        (λ same. rw same (get_or-set_same xs i (get_or xs i d) d within))
        (λ (other : j ≢ i). get_or-set_other xs i j (get_or xs j d) d other)
        (cases_eq j i)

    -- an exchange of two elements changes nothing
    sorted_by-swap : (xs : List X) (i j : ℕ) → i < length xs → j < length xs → sorted_by cmp (swap xs i j) ≡ sorted_by cmp xs
    sorted_by-swap [] i j in_i in_j = absurd (omega arith)
    sorted_by-swap (d ∷ ds) i j in_i in_j =
        let xs : List X = d ∷ ds in
        let x : X = get_or xs i d in
        let y : X = get_or xs j d in
        let moved : List X = set xs i y in
        let in_moved : j < length moved = rw (length-set xs i y) in_j in
        let before = ap (sorted_by cmp) (sym (set-get_or xs i d)) ∙ sorted_by-set xs i x in_i in
        let once = sorted_by-set xs i y in_i in
        let again = ap (sorted_by cmp) (sym (set-get_or moved j d) ∙ ap (set moved j) (get_or-after_set xs i j d in_i)) ∙ sorted_by-set moved j y in_moved in
        let rest = insert_cancel y _ _ (sym once ∙ again) in
        sorted_by-set moved j x in_moved ∙ ap (insert_by cmp x) (sym rest) ∙ sym before

    -- a sorted list with the same elements is what sorting gives
    pub sorted_by-unique : (xs ys : List X) → IsPermutation xs ys → IsSorted cmp ys → ys ≡ sorted_by cmp xs
    sorted_by-unique xs ys same up =
        sym (sorted_by-sorted ys up)
        ∙ IsPermutation-keeps xs (λ zs. sorted_by cmp zs ≡ sorted_by cmp xs) refl (λ zs i j in_i in_j e. sorted_by-swap zs i j in_i in_j ∙ e) ys same

-- a list sorted by what f reads of its elements
pub IsSorted-map : {X Y : Type 0} (f : X → Y) (cmp : Y → Y → Ordering) (xs : List X) → IsSorted (λ v w. cmp (f v) (f w)) xs → IsSorted cmp (map f xs)
IsSorted-map f cmp [] up = λ k d low high. absurd (omega arith)
IsSorted-map f cmp (x ∷ xs) up = λ k d low high.
    let within : k + 1 < length (x ∷ xs) = omega (arith, length-map (x ∷ xs) f) in
    rw (get_or-map f (x ∷ xs) (k + 1) x d within, get_or-map f (x ∷ xs) k x d (omega arith)) (up k x low within)
