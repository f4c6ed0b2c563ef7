-- What sorting gives: canonical queries, signed headers and metadata rest on it.
use Rattle.std.specs.Prelude.{◌≡◌, ◌≢◌, ◌↔◌, ℕ, IsTrue, List, ◌∷◌, ◌++◌}
use Rattle.std.specs.Cmp.{IsTotalOrder}
use Rattle.std.specs.List.{Contains}
use Rattle.std.specs.List.Sorted.{IsPermutation, IsStable}
use Rattle.std.specs.declared.cmp.Ordering.{Ordering}
use Rattle.std.specs.declared.cmp.Ordering.TheVariants.{Equal, Greater}
use Rattle.s3_text.specs.Order.{byte_order, rises}
use Rattle.s3_text.specs.Sorting.{sorted_by}

-- no element is greater than one behind it
abbrev pub IsInOrder : {X : Type 0} → (X → X → Ordering) → List X → Type 0
IsInOrder {X} cmp xs = (front rest : List X) (x y : X) → xs ≡ front ++ x ∷ rest → Contains rest y → cmp x y ≢ Greater

-- only equal elements tie
abbrev pub TellsApart : {X : Type 0} → (X → X → Ordering) → Type 0
TellsApart {X} cmp = (x y : X) → cmp x y ≡ Equal → x ≡ y

-- sorting gives the elements of a list, each as often as it was there, whatever the comparison
abbrev pub SortingKeepsElements : Type 0 → Type 0
SortingKeepsElements X = (cmp : X → X → Ordering) (xs : List X) → IsPermutation xs (sorted_by cmp xs)

-- by a total order they stand in order
abbrev pub SortingMakesOrder : Type 0 → Type 0
SortingMakesOrder X = (cmp : X → X → Ordering) → IsTotalOrder cmp → (xs : List X) → IsInOrder cmp (sorted_by cmp xs)

-- and those that tie stand as they stood
abbrev pub SortingKeepsTies : Type 0 → Type 0
SortingKeepsTies X = (cmp : X → X → Ordering) → IsTotalOrder cmp → (xs : List X) → IsStable cmp xs (sorted_by cmp xs)

-- no other list is in order with those that tie as they stood
abbrev pub OneListIsStable : Type 0 → Type 0
OneListIsStable X =
    (cmp : X → X → Ordering) → IsTotalOrder cmp → (xs ys : List X) → IsInOrder cmp ys → IsStable cmp xs ys → ys ≡ sorted_by cmp xs

-- where only equal elements tie, no other list in order has the same elements
abbrev pub OneListIsInOrder : Type 0 → Type 0
OneListIsInOrder X =
    (cmp : X → X → Ordering) → IsTotalOrder cmp → TellsApart cmp → (xs ys : List X)
    → IsPermutation xs ys → IsInOrder cmp ys → ys ≡ sorted_by cmp xs

-- so there it doesn't matter in which order the elements come
abbrev pub OrderBeforeIsForgotten : Type 0 → Type 0
OrderBeforeIsForgotten X =
    (cmp : X → X → Ordering) → IsTotalOrder cmp → TellsApart cmp → (xs ys : List X)
    → IsPermutation xs ys → sorted_by cmp ys ≡ sorted_by cmp xs

-- the order of bytes is total, and only equal texts tie
pub record BytesOrderTexts : Type 0 where
  pub total : IsTotalOrder byte_order
  pub apart : TellsApart byte_order

-- a list of texts is what sorting another by bytes gives exactly where it has its texts and is in order
abbrev pub TextsAreSorted : Type 0
TextsAreSorted =
    (xs ys : List (List ℕ)) → (ys ≡ sorted_by byte_order xs) ↔ (IsPermutation xs ys × IsInOrder byte_order ys)

-- no element stands there twice
abbrev pub AreDistinct : {X : Type 0} → List X → Type 0
AreDistinct {X} xs = (front rest : List X) (x : X) → xs ≡ front ++ x ∷ rest → ¬ Contains rest x

-- texts rise exactly where they are in order and none stands there twice
abbrev pub DistinctTextsRise : Type 0
DistinctTextsRise = (xs : List (List ℕ)) → IsTrue (rises xs) ↔ (IsInOrder byte_order xs × AreDistinct xs)
