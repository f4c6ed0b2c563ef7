-- Numbers of 64 bits as bytes: eight for each, the highest first.
use Rattle.std.specs.Prelude.{ℕ, List, [], Option, Some, unwrap_or}
use Rattle.std.specs.Int.{w64, to_be_bytes, from_be_bytes}
use Rattle.std.specs.List.{flat_map}
use Rattle.s3_columns.specs.Items.{◌>>=◌, cut_at, items_read}

-- numbers as bytes, one behind the other
abbrev pub numbers_spelled : List ℕ → List ℕ
numbers_spelled numbers = flat_map (to_be_bytes w64) numbers

-- the number at the front of some bytes, and the bytes behind it
unfoldable pub number_at : List ℕ → Option (ℕ × List ℕ)
number_at bytes = do
  first ← cut_at 8 bytes
  Some (from_be_bytes w64 first.0, first.1)

-- the numbers that bytes spell; none where their length is no multiple of eight
unfoldable pub numbers_in : List ℕ → List ℕ
numbers_in bytes = unwrap_or (items_read number_at bytes) []
