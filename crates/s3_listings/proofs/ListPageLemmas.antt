-- The last row of a page, by its place.
use Rattle.std.proofs.Common.{◌≡◌, refl, ap, ◌∙◌, ◌-◌, List, [], ◌∷◌, length, Some, None, arith}
use Rattle.std.specs.List.{last_or, slice_get}

last_behind : {A : Type 0} (x : A) (xs : List A) → slice_get (x ∷ xs) (length xs) ≡ last_or (Some x) xs
last_behind x [] = refl
last_behind x (y ∷ ys) = last_behind y ys

pub last_is : {A : Type 0} (xs : List A) → slice_get xs (length xs - 1) ≡ last_or None xs
last_is [] = refl
last_is (x ∷ xs) = ap (slice_get (x ∷ xs)) (omega arith) ∙ last_behind x xs
