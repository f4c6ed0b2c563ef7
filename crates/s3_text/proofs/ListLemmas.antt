-- Tests of the elements of a list.
use Rattle.std.proofs.Common.{◌≡◌, inl, inr, ℕ, ◌+◌, Bool, true, ◌||◌, List, [], ◌∷◌, map, filter, drop, Some, refl, ap, ◌∙◌, slice_get}
use Rattle.std.specs.Prelude.{is_some}
use Rattle.std.specs.List.{list_any, list_all}
use Rattle.std.proofs.lemmas.Bool.{cases_Bool}
use Rattle.std.proofs.lemmas.List.{drop_more}
use Rattle.std.proofs.lemmas.List.Elements.{All-weaker}
use Rattle.std.proofs.lemmas.List.Sums.{AllPass-from_list_all, list_all-from_AllPass}
use Rattle.std.proofs.lemmas.Option.{get_or_from_slice_get, slice_get_within}

-- a test of what is read of the elements
pub list_any-map : {X Y : Type 0} (p : Y → Bool) (f : X → Y) (xs : List X) → list_any p (map f xs) ≡ list_any (λ x. p (f x)) xs
list_any-map p f [] = refl
list_any-map p f (x ∷ xs) = ap (λ b. p (f x) || b) (list_any-map p f xs)

-- a test that is weaker is passed by more
pub all_weaker : {X : Type 0} (p q : X → Bool) → ((x : X) → p x ≡ true → q x ≡ true) → (xs : List X) → list_all p xs ≡ true → list_all q xs ≡ true
all_weaker p q weaker xs all =
    list_all-from_AllPass q xs (All-weaker (λ x. p x ≡ true) (λ x. q x ≡ true) weaker xs (AllPass-from_list_all p xs all))

-- the element at i, and those after it
pub elements_from : {X : Type 0} (xs : List X) (i : ℕ) (x : X) → slice_get xs i ≡ Some x → drop i xs ≡ x ∷ drop (i + 1) xs
elements_from xs i x is =
    drop_more xs i x (slice_get_within xs i x is)
    ∙ ap (λ y. y ∷ drop (i + 1) xs) (get_or_from_slice_get xs i x x is)

-- some element passes exactly where there is a first one of those that do
pub is_some-first_kept : {X Y : Type 0} (p : X → Bool) (f : X → Y) (xs : List X) → is_some (slice_get (map f (filter p xs)) 0) ≡ list_any p xs
is_some-first_kept p f [] = refl
is_some-first_kept p f (x ∷ xs) = elim (cases_Bool (p x)) [
  | inl passes ↦ rw passes refl
  | inr fails ↦ rw fails (is_some-first_kept p f xs)
]
