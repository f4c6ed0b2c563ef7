-- The lines of a text, and the first of them that is wrong.
use Rattle.std.specs.Prelude.{ℕ, ◌<◌, ◌==◌, if◌then◌else◌, List, [], ◌∷◌, length, take}
use Rattle.s3_text.specs.Characters.{line_feed}
use Rattle.s3_text.specs.Cut.{parts_at}

-- what stands between line ends, without an empty text at the end
abbrev pub without_empty_end : List (List ℕ) → List (List ℕ)
without_empty_end [] = []
without_empty_end (part ∷ []) = if length part == 0 then [] else part ∷ []
without_empty_end (part ∷ next ∷ parts) = part ∷ without_empty_end (next ∷ parts)

-- the lines of a text, each without its end (LF), which the last may lack
unfoldable pub lines_of : List ℕ → List (List ℕ)
lines_of text = without_empty_end (parts_at line_feed text)

-- the first bad line has this number, from 1: the lines up to it are not as they should be, and any fewer are
pub record IsFirstBadLine (AreRight : List (List ℕ) → Type 0) (lines : List (List ℕ)) (number : ℕ) : Type 0 where
  pub bad : ¬ AreRight (take number lines)
  pub before : (count : ℕ) → count < number → AreRight (take count lines)
