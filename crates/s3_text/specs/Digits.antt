-- Numbers in digits: a short decimal number, and a number of 64 bits in hexadecimal.
use Rattle.std.specs.Prelude.{ℕ, Bool, ◌&&◌, nat_le, if◌then◌else◌, List, length, Option, Some, None}
use Rattle.std.specs.List.{list_all}
use Rattle.std.specs.Char.{is_ascii_digit}
use Rattle.std.specs.Int.{w64, to_be_bytes}
use Rattle.std.specs.Str.Parse.{digits_value}
use Rattle.hex.specs.Hex.{encode_lower}

-- 1 to `most` decimal digits: no sign, no space
abbrev pub is_decimal : ℕ → List ℕ → Bool
is_decimal most text = nat_le 1 (length text) && nat_le (length text) most && list_all is_ascii_digit text

-- the number that such a text spells
abbrev pub decimal_number : ℕ → List ℕ → Option ℕ
decimal_number most text = if is_decimal most text then Some (digits_value 10 text) else None

-- a number of 64 bits as sixteen lower-case hexadecimal digits
unfoldable pub number_digits : ℕ → List ℕ
number_digits n = encode_lower (to_be_bytes w64 n)
