-- A list in the order of a comparison.
use Rattle.std.specs.Prelude.{if◌then◌else◌, List, [], ◌∷◌}
use Rattle.std.specs.declared.cmp.Ordering.{Ordering}
use Rattle.std.specs.Ordering.{is_gt}

-- the list with one more element, in front of the first that is not below it
abbrev pub insert_by : {X : Type 0} → (X → X → Ordering) → X → List X → List X
insert_by cmp x [] = x ∷ []
insert_by cmp x (y ∷ ys) = if is_gt (cmp x y) then y ∷ insert_by cmp x ys else x ∷ y ∷ ys

-- the elements from the least to the greatest
unfoldable pub sorted_by : {X : Type 0} → (X → X → Ordering) → List X → List X
sorted_by cmp [] = []
sorted_by cmp (x ∷ xs) = insert_by cmp x (sorted_by cmp xs)
