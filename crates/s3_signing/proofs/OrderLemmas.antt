-- Names in order, each once: they rise, and they are the names of the list.
use Rattle.std.proofs.Common.{◌≡◌, ℕ, Bool, true, false, not, ◌&&◌, ◌||◌, List, [], ◌∷◌, refl, sym, ap, ◌∙◌, ⊎_elim, IsPermutation}
use Rattle.std.specs.Cmp.Lexicographic.{texts_ties}
use Rattle.std.specs.List.{list_any, list_all, dedup, dedup_from}
use Rattle.std.specs.List.Sorted.{IsSorted, IsStrictlySortedBy}
use Rattle.std.specs.Ordering.{is_lt}
use Rattle.std.specs.Str.{bytes_eq}
use Rattle.std.proofs.lemmas.Bool.{cases_Bool, cond-true, cond-false, and_from}
use Rattle.std.proofs.lemmas.Cmp.{nat_list_cmp_total}
use Rattle.std.proofs.lemmas.List.Kept.{IsStrictlySortedBy-dedup}
use Rattle.std.proofs.lemmas.List.Sorted.{list_any-IsPermutation}
use Rattle.std.proofs.lemmas.Slice.Eq.{bytes_eq-Decides}
use Rattle.s3_text.specs.Order.{byte_order, rises}
use Rattle.s3_text.specs.Sorting.{sorted_by}
use Rattle.s3_signing.specs.Names.{IsOrdered, in_order}

or_twice : (a b : Bool) → (a || b) ≡ (a || (a || b))
or_twice true b = refl
or_twice false b = refl

-- a test that some name passes is passed by one of those that are left of equal neighbours
dedup_from-any : (p : List ℕ → Bool) (k : List ℕ) (xs : List (List ℕ)) → list_any p (dedup_from bytes_eq k xs) ≡ (p k || list_any p xs)
dedup_from-any p k [] = refl
dedup_from-any p k (x ∷ xs) =
    ⊎_elim
    (λ same. ap (list_any p) (cond-true (bytes_eq x k) (dedup_from bytes_eq k xs) (k ∷ dedup_from bytes_eq x xs) same) ∙ dedup_from-any p k xs ∙ or_twice (p k) (list_any p xs) ∙ ap (λ y. p k || (p y || list_any p xs)) (sym ((bytes_eq-Decides x k).0 same)))
    (λ other. ap (list_any p) (cond-false (bytes_eq x k) (dedup_from bytes_eq k xs) (k ∷ dedup_from bytes_eq x xs) other) ∙ ap (λ b. p k || b) (dedup_from-any p x xs))
    (cases_Bool (bytes_eq x k))

dedup-any : (p : List ℕ → Bool) (xs : List (List ℕ)) → list_any p (dedup bytes_eq xs) ≡ list_any p xs
dedup-any p [] = refl
dedup-any p (x ∷ xs) = dedup_from-any p x xs

rises_strictly : (names : List (List ℕ)) → IsStrictlySortedBy byte_order names → rises names ≡ true
unfolding IsStrictlySortedBy
rises_strictly [] up = refl
rises_strictly (x ∷ []) up = refl
rises_strictly (x ∷ y ∷ rest) up = and_from _ _ (ap is_lt up.0.0) (rises_strictly (y ∷ rest) up.1)

-- what the code sorted says so of the names in order
pub is_ordered : (names sorted : List (List ℕ)) → IsPermutation names sorted → sorted ≡ sorted_by byte_order names → IsSorted byte_order sorted → IsOrdered names
is_ordered names sorted same is up = record {
  rising = ap (λ xs. rises (dedup bytes_eq xs)) (sym is) ∙ rises_strictly (dedup bytes_eq sorted) (IsStrictlySortedBy-dedup nat_list_cmp_total texts_ties sorted up);
  same = λ p. dedup-any p (sorted_by byte_order names) ∙ ap (list_any p) (sym is) ∙ sym (list_any-IsPermutation p names sorted same);
}

and_by_or : (a b : Bool) → (a && not b) ≡ not (not a || b)
and_by_or true b = refl
and_by_or false b = refl

all_by_any : (p : List ℕ → Bool) (xs : List (List ℕ)) → list_all p xs ≡ not (list_any (λ x. not (p x)) xs)
all_by_any p [] = refl
all_by_any p (x ∷ xs) = ap (λ b. p x && b) (all_by_any p xs) ∙ and_by_or (p x) (list_any (λ y. not (p y)) xs)

-- a test that all names pass
pub list_all-in_order : (p : List ℕ → Bool) (names : List (List ℕ)) → IsOrdered names → list_all p (in_order names) ≡ list_all p names
list_all-in_order p names ordered =
    all_by_any p (in_order names) ∙ ap not (ordered.same (λ name. not (p name))) ∙ sym (all_by_any p names)
