-- The room for lines that wait.
use Rattle.std.specs.Prelude.{◌≡◌, ◌<◌, ◌≤◌, ◌+◌, ℕ, Bool, true, false, List, ◌++◌, length, min}

-- how many bytes of lines wait at most
abbrev pub room : ℕ
room = 4_194_304

-- the line stands behind the others, all within the room; or they are as they were, and there was no room for it, or not so much
abbrev pub HasPut : ℕ → List ℕ → List ℕ → List ℕ → Bool → Type 0
HasPut more line old new true = (new ≡ old ++ line) × (length new ≤ room)
HasPut more line old new false = (new ≡ old) × (min (length old + more) room < length old + length line)
