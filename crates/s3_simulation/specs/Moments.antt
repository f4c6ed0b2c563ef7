-- The moments that a list hands to a connection's messages.
use Rattle.std.specs.Prelude.{◌≡◌, ℕ, zero, suc, ◌+◌, Bool, true, false, List, [], ◌∷◌, ◌++◌}

-- the first n moments that a list hands out: the k-th message has the k-th of the list, the last one again where it has run
-- out, and 0 where it has none
abbrev pub handed : List ℕ → ℕ → List ℕ
handed moments zero = []
handed [] (suc n) = 0 ∷ handed [] n
handed (last ∷ []) (suc n) = last ∷ handed (last ∷ []) n
handed (moment ∷ next ∷ later) (suc n) = moment ∷ handed (next ∷ later) n

-- the moment that it hands out first
abbrev pub next_of : List ℕ → ℕ
next_of [] = 0
next_of (moment ∷ later) = moment

-- what hands out the moments behind that
abbrev pub behind : List ℕ → List ℕ
behind [] = []
behind (last ∷ []) = last ∷ []
behind (moment ∷ next ∷ later) = next ∷ later

-- the same, if it was handed out
abbrev pub behind_if : Bool → List ℕ → List ℕ
behind_if true moments = behind moments
behind_if false moments = moments

-- a list has handed out so many moments: what comes next is what these hand out
abbrev pub HasHanded : List ℕ → ℕ → List ℕ → Type 0
HasHanded moments count left = (n : ℕ) → handed moments (count + n) ≡ handed moments count ++ handed left n
