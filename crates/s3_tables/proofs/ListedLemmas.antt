-- A list whose length and elements are known is that list.
use Rattle.std.proofs.Common.{◌≡◌, ℕ, suc, List, [], ◌∷◌, length, get_or, refl, sym, ap₂, arith}

-- each of these stands at its place, the first at 0
abbrev pub StandsIn : {X : Type 0} → (ℕ → X → X) → List X → Type 0
StandsIn at [] = Unit {0}
StandsIn at (x ∷ xs) = (x ≡ at 0 x) × StandsIn (λ k d. at (suc k) d) xs

pub listed_are : {X : Type 0} (all xs : List X) → StandsIn (get_or all) xs → length all ≡ length xs → all ≡ xs
listed_are [] [] stands same = refl
listed_are [] (x ∷ xs) stands same = absurd (omega (arith, same))
listed_are (y ∷ all) [] stands same = absurd (omega (arith, same))
listed_are (y ∷ all) (x ∷ xs) stands same = ap₂ ◌∷◌ (sym stands.0) (listed_are all xs stands.1 (omega (arith, same)))
