-- The order of texts.
use Rattle.std.specs.Prelude.{ℕ, Bool, true, ◌&&◌, List, [], ◌∷◌}
use Rattle.std.specs.declared.cmp.Ordering.{Ordering}
use Rattle.std.specs.Ordering.{is_lt, nat_cmp}
use Rattle.std.specs.Cmp.Lexicographic.{slice_cmp}

-- the order of texts: byte by byte, a beginning before what goes on
abbrev pub byte_order : List ℕ → List ℕ → Ordering
byte_order = slice_cmp nat_cmp

-- each text comes before the next one
abbrev pub rises : List (List ℕ) → Bool
rises [] = true
rises (x ∷ []) = true
rises (x ∷ y ∷ rest) = is_lt (byte_order x y) && rises (y ∷ rest)
