-- Bytes in chunks of one size.
use Rattle.std.specs.Prelude.{◌≡◌, ℕ, ◌+◌, List, ◌++◌, length, take, drop}
use Rattle.std.specs.List.{All}

-- the file with these bytes from a place on, in place of those that it has there
abbrev pub overwritten : List ℕ → ℕ → List ℕ → List ℕ
overwritten file at bytes = take at file ++ bytes ++ drop (at + length bytes) file

-- each chunk has so many bytes
abbrev pub AreChunks : ℕ → List (List ℕ) → Type 0
AreChunks size chunks = All (λ chunk. length chunk ≡ size) chunks
