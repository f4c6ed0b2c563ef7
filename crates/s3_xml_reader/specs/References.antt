-- References, in the steps in which a reader resolves them.
use Rattle.std.specs.Prelude.{ℕ, ◌+◌, ◌*◌, nat_lt, if◌then◌else◌, List, codes, Option, Some, None}
use Rattle.std.specs.Char.{is_digit, digit_value}
use Rattle.std.specs.Str.{bytes_eq}
use Rattle.s3_xml.specs.Grammar.{Front, cut_at, number_of, character_of, referred}
use Rattle.s3_xml.specs.Option.{◌>>=◌}

-- a number, unless it is above those of characters
abbrev pub within_characters : ℕ → Option ℕ
within_characters number = if nat_lt number 1_114_112 then Some number else None

-- the number that the digits of a number and one more spell
abbrev pub with_digit : ℕ → ℕ → ℕ → Option ℕ
with_digit radix number byte =
    if is_digit byte radix then within_characters (number * radix + digit_value byte) else None

-- the number that digits spell, unless it is above those of characters
unfoldable pub number_within : ℕ → List ℕ → Option ℕ
number_within radix digits = number_of radix digits >>= within_characters

-- the character whose number digits spell
unfoldable pub numbered : ℕ → List ℕ → Option (List ℕ)
numbered radix digits = number_of radix digits >>= character_of

-- the character of one of the five entities
unfoldable pub entity : List ℕ → Option ℕ
entity name =
    if bytes_eq name (codes "amp") then Some 38
    else if bytes_eq name (codes "lt") then Some 60
    else if bytes_eq name (codes "gt") then Some 62
    else if bytes_eq name (codes "quot") then Some 34
    else if bytes_eq name (codes "apos") then Some 39
    else None

-- what stands first in what is behind an `&`, and what is behind its reference
unfoldable pub resolved_at : List ℕ → Option Front
resolved_at part = do
  cut ← cut_at (codes ";") part
  character ← referred cut.0
  Some (character, cut.1)
