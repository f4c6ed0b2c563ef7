-- The text of a name or a key.
use Rattle.std.specs.Prelude.{ℕ, List}
use Rattle.s3_names.specs.declared.text.Bytes.{Bytes}
use Rattle.s3_names.specs.declared.text.Bytes.TheVariants.{Short, Long}

-- the bytes, wherever they lie
abbrev pub bytes_of : Bytes → List ℕ
bytes_of (Short text) = text
bytes_of (Long text) = text.items
