-- A digest of 32 bytes as a text.
use Rattle.std.specs.Prelude.{ℕ, Bool, ◌&&◌, ◌==◌, List, length}
use Rattle.std.specs.List.{list_all}
use Rattle.s3_text.specs.Characters.{is_lower_hex}

-- 64 lower-case hexadecimal digits
abbrev pub is_hex_digest : List ℕ → Bool
is_hex_digest text = length text == 64 && list_all is_lower_hex text
