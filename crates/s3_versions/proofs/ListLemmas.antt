-- Lists of which at most one element passes a test.
use Rattle.std.proofs.Common.{◌≡◌, refl, sym, ap, ◌∙◌, ◌<◌, ◌+◌, suc, arith, Bool, true, false, cond, not, ◌&&◌, ℕ, List, [], ◌∷◌, length, nat_lt, ◌≤◌, Some, None, filter, find, sum_by, unwrap_or, option_map, zero-add}
use Rattle.std.specs.List.{list_all, position, position_or_len, remove, slice_get}
use Rattle.std.proofs.lemmas.Bool.{and_parts, and_from, not-true, ltb-true, ltb-false}
use Rattle.std.proofs.lemmas.List.Folds.{find_at}
use Rattle.std.proofs.lemmas.Option.{cond_some, slice_get_past}

-- what passes one test passes another
pub list_all-then : {X : Type 0} (p q : X → Bool) (xs : List X) → ((x : X) → p x ≡ true → q x ≡ true) → list_all p xs ≡ true → list_all q xs ≡ true
list_all-then p q [] then all = refl
list_all-then p q (x ∷ xs) then all =
    let parts = and_parts (p x) (list_all p xs) all in
    and_from (q x) (list_all q xs) (then x parts.0) (list_all-then p q xs then parts.1)

-- what all pass, those kept by another test pass
pub list_all-filter : {X : Type 0} (p q : X → Bool) (xs : List X) → list_all p xs ≡ true → list_all p (filter q xs) ≡ true
list_all-filter p q [] all = refl
list_all-filter p q (x ∷ xs) all =
    let parts = and_parts (p x) (list_all p xs) all in
    let rest = list_all-filter p q xs parts.1 in
    elim (q x) as (λ b. list_all p (cond b (x ∷ filter q xs) (filter q xs)) ≡ true) [
      | true ↦ and_from (p x) (list_all p (filter q xs)) parts.0 rest
      | false ↦ rest
    ]

-- what is kept passes
pub list_all-kept : {X : Type 0} (p : X → Bool) (xs : List X) → list_all p (filter p xs) ≡ true
list_all-kept p [] = refl
list_all-kept p (x ∷ xs) =
    elim (p x) as (λ b. p x ≡ b → list_all p (cond b (x ∷ filter p xs) (filter p xs)) ≡ true) [
      | true ↦ λ is. and_from (p x) (list_all p (filter p xs)) is (list_all-kept p xs)
      | false ↦ λ is. list_all-kept p xs
    ] refl

-- where all pass, all are kept
pub filter-all : {X : Type 0} (p : X → Bool) (xs : List X) → list_all p xs ≡ true → filter p xs ≡ xs
filter-all p [] all = refl
filter-all p (x ∷ xs) all =
    let parts = and_parts (p x) (list_all p xs) all in
    ap (λ b. cond b (x ∷ filter p xs) (filter p xs)) parts.0 ∙ ap (λ ys. x ∷ ys) (filter-all p xs parts.1)

-- where none is found, none passes
pub find-none : {X : Type 0} (p : X → Bool) (xs : List X) → find p xs ≡ None → list_all (λ x. not (p x)) xs ≡ true
find-none p [] none = refl
find-none p (x ∷ xs) none =
    elim (p x) as (λ b. p x ≡ b → cond b (Some x) (find p xs) ≡ None → (not b && list_all (λ y. not (p y)) xs) ≡ true) [
      | true ↦ λ is some. absurd (cc)
      | false ↦ λ is rest. find-none p xs rest
    ] refl none

-- at most one element passes
abbrev pub AtMostOne : {X : Type 0} → (X → Bool) → List X → Type 0
AtMostOne p [] = Unit {0}
AtMostOne p (x ∷ xs) = (p x ≡ true → list_all (λ y. not (p y)) xs ≡ true) × AtMostOne p xs

one_more : (n : ℕ) → 1 + n ≡ suc n
one_more n = omega arith

-- to take out the first that passes leaves those that don't pass
pub remove-first : {X : Type 0} (p : X → Bool) (xs : List X) → AtMostOne p xs → position_or_len p xs < length xs → remove xs (position_or_len p xs) ≡ filter (λ x. not (p x)) xs
remove-first p [] one within = absurd (omega arith)
remove-first p (x ∷ xs) one within =
    elim (p x) as (λ b. p x ≡ b → cond (not b) (1 + position_or_len p xs) 0 < length (x ∷ xs) → remove (x ∷ xs) (cond (not b) (1 + position_or_len p xs) 0) ≡ cond (not b) (x ∷ filter (λ y. not (p y)) xs) (filter (λ y. not (p y)) xs)) [
      | true ↦ λ is in_list. sym (filter-all (λ y. not (p y)) xs (one.0 is))
      | false ↦ λ is in_list.
          ap (remove (x ∷ xs)) (one_more (position_or_len p xs)) ∙ ap (λ ys. x ∷ ys) (remove-first p xs one.1 (omega arith))
    ] refl within

-- the element at the first place that passes is found, and to remove it leaves those that don't pass
pub position-found : {X : Type 0} (p : X → Bool) (xs : List X) (i : ℕ) → position p xs ≡ Some i → find p xs ≡ slice_get xs i
position-found p xs i is = find_at p xs ∙ ap (slice_get xs) (cond_some _ _ _ is).1

pub position-left : {X : Type 0} (p : X → Bool) (xs : List X) (i : ℕ) → AtMostOne p xs → position p xs ≡ Some i → remove xs i ≡ filter (λ x. not (p x)) xs
position-left p xs i one is =
    let parts = cond_some _ _ _ is in
    ap (remove xs) (sym parts.1) ∙ remove-first p xs one (ltb-true _ _ parts.0)

no_place : (i n : ℕ) → cond (nat_lt i n) (Some i) None ≡ None → n ≤ i
no_place i n none =
    elim (nat_lt i n) as (λ b. nat_lt i n ≡ b → cond b (Some i) None ≡ None → n ≤ i) [
      | true ↦ λ is some. absurd (cc)
      | false ↦ λ is rest. ltb-false i n is
    ] refl none

pub position-none : {X : Type 0} (p : X → Bool) (xs : List X) → position p xs ≡ None → find p xs ≡ None
position-none p xs is =
    find_at p xs ∙ slice_get_past xs (position_or_len p xs) (no_place _ _ is)

-- where none passes, none is kept, and none is found
pub filter-none : {X : Type 0} (p : X → Bool) (xs : List X) → list_all (λ x. not (p x)) xs ≡ true → filter p xs ≡ []
filter-none p [] none = refl
filter-none p (x ∷ xs) none =
    let parts = and_parts (not (p x)) (list_all (λ y. not (p y)) xs) none in
    ap (λ b. cond b (x ∷ filter p xs) (filter p xs)) (not-true (p x) parts.0) ∙ filter-none p xs parts.1

pub length-filter_one : {X : Type 0} (p : X → Bool) (xs : List X) → AtMostOne p xs → length (filter p xs) ≤ 1
length-filter_one p [] one = omega arith
length-filter_one p (x ∷ xs) one =
    elim (p x) as (λ b. p x ≡ b → length (cond b (x ∷ filter p xs) (filter p xs)) ≤ 1) [
      | true ↦ λ is. omega (arith, ap length (filter-none p xs (one.0 is)))
      | false ↦ λ is. length-filter_one p xs one.1
    ] refl

-- of a list where at most one passes, the sum over those that pass is that of the one that is found
pub sum_by-filter_one : {X : Type 0} (f : X → ℕ) (p : X → Bool) (xs : List X) → AtMostOne p xs → sum_by f (filter p xs) ≡ unwrap_or (option_map f (find p xs)) 0
sum_by-filter_one f p [] one = refl
sum_by-filter_one f p (x ∷ xs) one =
    elim (p x) as (λ b. p x ≡ b → sum_by f (cond b (x ∷ filter p xs) (filter p xs)) ≡ unwrap_or (option_map f (cond b (Some x) (find p xs))) 0) [
      | true ↦ λ is. ap (λ ys. sum_by f (x ∷ ys)) (filter-none p xs (one.0 is)) ∙ zero-add (f x)
      | false ↦ λ is. sum_by-filter_one f p xs one.1
    ] refl

-- of those that don't pass, none passes
pub find-left : {X : Type 0} (p : X → Bool) (xs : List X) → find p (filter (λ x. not (p x)) xs) ≡ None
find-left p [] = refl
find-left p (x ∷ xs) =
    elim (p x) as (λ b. p x ≡ b → find p (cond (not b) (x ∷ filter (λ y. not (p y)) xs) (filter (λ y. not (p y)) xs)) ≡ None) [
      | true ↦ λ is. find-left p xs
      | false ↦ λ is. ap (λ b. cond b (Some x) (find p (filter (λ y. not (p y)) xs))) is ∙ find-left p xs
    ] refl

-- to leave out what passes one test leaves what another finds, where no element passes both
pub find-others : {X : Type 0} (p q : X → Bool) (xs : List X) → ((x : X) → p x ≡ true → q x ≡ false) → find q (filter (λ x. not (p x)) xs) ≡ find q xs
find-others p q [] apart = refl
find-others p q (x ∷ xs) apart =
    elim (p x) as (λ b. p x ≡ b → find q (cond (not b) (x ∷ filter (λ y. not (p y)) xs) (filter (λ y. not (p y)) xs)) ≡ cond (q x) (Some x) (find q xs)) [
      | true ↦ λ is. find-others p q xs apart ∙ sym (ap (λ b. cond b (Some x) (find q xs)) (apart x is))
      | false ↦ λ is. ap (cond (q x) (Some x)) (find-others p q xs apart)
    ] refl
