-- How many bodies have each granule, as a list of counts. A granule past its end has none.
use Rattle.std.specs.Prelude.{◌≡◌, ℕ, ◌+◌, ◌-◌, ◌^◌, ◌<◌, ◌≤◌, List, length, slice_index}

-- no body has any of these granules
abbrev pub AreFree : List ℕ → ℕ → ℕ → Type 0
AreFree uses first count = (k : ℕ) → first ≤ k → k < first + count → slice_index uses k ≡ 0

-- each of these granules has a body
abbrev pub AreTaken : List ℕ → ℕ → ℕ → Type 0
AreTaken uses first count = (k : ℕ) → first ≤ k → k < first + count → 0 < slice_index uses k

-- each of these granules can have one body more
abbrev pub HaveRoom : List ℕ → ℕ → ℕ → Type 0
HaveRoom uses first count = (k : ℕ) → first ≤ k → k < first + count → slice_index uses k < 2 ^ 32 - 1

-- these granules have one body more than before, and the others as many
pub record OneMore (first count : ℕ) (before after : List ℕ) : Type 0 where
  pub these : (k : ℕ) → first ≤ k → k < first + count → slice_index after k ≡ slice_index before k + 1
  pub in_front : (k : ℕ) → k < first → slice_index after k ≡ slice_index before k
  pub behind : (k : ℕ) → first + count ≤ k → slice_index after k ≡ slice_index before k

-- each of these granules has a count in the list
abbrev pub AreListed : List ℕ → ℕ → ℕ → Type 0
AreListed uses first count = (k : ℕ) → first ≤ k → k < first + count → k < length uses
