-- The names of the elements that are open.
use Rattle.std.specs.Prelude.{ℕ, if◌then◌else◌, List, [], ◌∷◌, map, reverse, Option, Some, None}
use Rattle.std.specs.Str.{bytes_eq}
use Rattle.std.specs.Borrow.{Bor}

-- from the innermost on, where they were kept as they began
abbrev pub innermost_first : List (Bor (List ℕ)) → List (List ℕ)
innermost_first names = reverse (map (λ name. name.now) names)

-- those that stay open where an element of this name ends, if it is the innermost
unfoldable pub left_by : List (List ℕ) → List ℕ → Option (List (List ℕ))
left_by [] name = None
left_by (outer ∷ within) name = if bytes_eq outer name then Some within else None
