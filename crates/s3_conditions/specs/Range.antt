-- A range of bytes that a request asks for (RFC 9110, sections 14.1.2 and 14.2): one alone, in the unit `bytes`.
use Rattle.std.specs.Prelude.{ℕ, ◌==◌, nat_eq, nat_le, if◌then◌else◌, List, [], ◌∷◌, length, drop, codes, Option, Some, None, option_map, option_and_then}
use Rattle.std.specs.List.{starts_with}
use Rattle.s3_text.specs.Characters.{hyphen}
use Rattle.s3_text.specs.Cut.{parts_at}
use Rattle.s3_text.specs.Digits.{decimal_number}
use Rattle.s3_conditions.specs.declared.range.ByteRange.{ByteRange}
use Rattle.s3_conditions.specs.declared.range.ByteRange.TheVariants.{FromTo, From, Last}

-- what follows the unit
abbrev pub behind_unit : List ℕ → Option (List ℕ)
behind_unit value = if starts_with nat_eq value (codes "bytes=") then Some (drop 6 value) else None

-- a number of 1 to 18 digits
abbrev pub position : List ℕ → Option ℕ
position text = decimal_number 18 text

-- from a first position to a last one that doesn't come before it
abbrev pub in_order : ℕ → ℕ → Option ByteRange
in_order first last = if nat_le first last then Some (FromTo first last) else None

-- the range with these texts before and after its hyphen: `a-b`, `a-` or `-n`
unfoldable pub between : List ℕ → List ℕ → Option ByteRange
between before after =
    if length before == 0 then option_map Last (position after)
    else (if length after == 0 then option_map From (position before)
    else option_and_then (λ first. option_and_then (in_order first) (position after)) (position before))

-- two parts are such a range, and no other number of them is
abbrev pub range_of_parts : List (List ℕ) → Option ByteRange
range_of_parts (before ∷ after ∷ []) = between before after
range_of_parts other = None

-- the range that a Range line's value spells; anything else counts as no range
unfoldable pub byte_range : List ℕ → Option ByteRange
byte_range value = option_and_then (λ range. range_of_parts (parts_at hyphen range)) (behind_unit value)
