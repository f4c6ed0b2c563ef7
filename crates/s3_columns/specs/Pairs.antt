-- Names and values as bytes: two bytes with the length of a name, the name, four bytes with the length of its value, the value,
-- and so the next pair.
use Rattle.std.specs.Prelude.{◌<◌, ℕ, ◌^◌, List, ◌++◌, length, Option, Some}
use Rattle.std.specs.Int.{w16, w32}
use Rattle.std.specs.List.{flat_map, AllByRecursion}
use Rattle.s3_columns.specs.Items.{◌>>=◌, text_spelled, text_at, items_read}

-- a name and its value
pub record Pair : Type 0 where
  pub name : List ℕ
  pub value : List ℕ

-- a pair as bytes
abbrev pub pair_spelled : Pair → List ℕ
pair_spelled pair = text_spelled w16 pair.name ++ text_spelled w32 pair.value

-- pairs as bytes, one behind the other
abbrev pub pairs_spelled : List Pair → List ℕ
pairs_spelled pairs = flat_map pair_spelled pairs

-- the bytes for the lengths have room for them
pub record Fits (pair : Pair) : Type 0 where
  pub name : length pair.name < 2 ^ 16
  pub value : length pair.value < 2 ^ 32

abbrev pub AreFitting : List Pair → Type 0
AreFitting pairs = AllByRecursion Fits pairs

-- the pair at the front of some bytes, and the bytes behind it
unfoldable pub pair_at : List ℕ → Option (Pair × List ℕ)
pair_at bytes = do
  name ← text_at w16 bytes
  value ← text_at w32 name.1
  Some (record { name = name.0; value = value.0 }, value.1)

-- the pairs that bytes spell; none where they spell no pairs
abbrev pub pairs_read : List ℕ → Option (List Pair)
pairs_read bytes = items_read pair_at bytes
