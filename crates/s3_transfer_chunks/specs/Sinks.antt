-- What a sink got.
use Rattle.std.specs.Prelude.{◌≡◌, ℕ, List, ◌++◌, length, drop}

-- what a sink got between these two
abbrev pub got : List ℕ → List ℕ → List ℕ
got before after = drop (length before) after

-- what it has now is what it had, and what it got
abbrev pub Grows : List ℕ → List ℕ → Type 0
Grows before after = after ≡ before ++ got before after
