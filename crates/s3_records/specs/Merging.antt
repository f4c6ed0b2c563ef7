-- What stands under a key while the versions under some keys of a bucket are replaced.
use Rattle.std.specs.Prelude.{◌≡◌, ◌⊎◌, Bool, IsTrue, List, [], ◌∷◌, Option, Some, None}

-- versions as a map holds them: a key without versions is not there
abbrev pub held : {V : Type 0} → List V → Option (List V)
held [] = None
held (v ∷ vs) = Some (v ∷ vs)

-- what stands there now is what was found, or, where the key is named and nothing was found, a place without versions
abbrev pub IsKeptOrPlaced : {V : Type 0} → Bool → Option (List V) → Option (List V) → Type 0
IsKeptOrPlaced named found now = (now ≡ found) ⊎ (IsTrue named × ((found ≡ None) × (now ≡ Some [])))

-- what is kept where something else is there, too
abbrev pub kept_by : {A C : Type 0} → Option A → Option C → Option C
kept_by None found = None
kept_by (Some other) found = found
