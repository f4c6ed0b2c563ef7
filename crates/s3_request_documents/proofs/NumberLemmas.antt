-- The numbers of parts in decimal digits.
use Rattle.std.proofs.Common.{◌≡◌, refl, sym, ap, ◌∙◌, ℕ, ◌+◌, ◌*◌, ◌<◌, Bool, true, false, ◌&&◌, nat_lt, if◌then◌else◌, List, [], ◌∷◌, length, take, get_or, arith, Option, Some, None, min}
use Rattle.std.proofs.lemmas.Bool.{lt-ltb}
use Rattle.std.proofs.lemmas.Bool.Decides.{nat_tests}
use Rattle.std.proofs.lemmas.Int.Digits.{digits_value_more}
use Rattle.std.specs.Prelude.{option_map}
use Rattle.std.specs.Char.{is_ascii_digit, digit_value}
use Rattle.std.specs.List.{list_all}
use Rattle.std.specs.Str.Parse.{digits_value}
use Rattle.s3_names.specs.Ids.{as_part_number}
use Rattle.s3_request_documents.specs.Xml.{trimmed, number_spelled, number_told}

-- a number above those of parts is that of none, whichever it is
pub capped : (number : ℕ) → as_part_number (min number 10_001) ≡ as_part_number number
capped number = grind (arith, nat_tests)

-- one more digit
pub capped_more : (digits : List ℕ) (i number : ℕ) → i < length digits → number ≡ min (digits_value 10 (take i digits)) 10_001
    → min (number * 10 + digit_value (get_or digits i 0)) 10_001 ≡ min (digits_value 10 (take (i + 1) digits)) 10_001
capped_more digits i number within is = omega (arith, is, digits_value_more 10 digits i within)

-- of digits
abbrev part_spelled : List ℕ → Option (Option ℕ)
part_spelled digits = option_map as_part_number (number_spelled digits)

spelled_none : (some all : Bool) (number : ℕ) → all ≡ false → option_map as_part_number (if some && all then Some number else None) ≡ None
spelled_none true all number is = rw is refl
spelled_none false all number is = refl

spelled_some : (some all : Bool) (number : ℕ) → some ≡ true → all ≡ true
    → option_map as_part_number (if some && all then Some number else None) ≡ Some (as_part_number (min number 10_001))
spelled_some true true number some all = ap Some (sym (capped number))
spelled_some true false number some all = absurd (cc)
spelled_some false all number some is = absurd (cc)

nothing_spelled : (digits : List ℕ) → length digits ≡ 0 → part_spelled digits ≡ None
nothing_spelled [] empty = refl
nothing_spelled (b ∷ digits) empty = absurd (omega arith)

-- what is no number tells none
pub told_empty : (text digits : List ℕ) → digits ≡ trimmed text → length digits ≡ 0 → option_map as_part_number (number_told text) ≡ None
told_empty text digits are empty = ap part_spelled (sym are) ∙ nothing_spelled digits empty

pub told_other : (text digits : List ℕ) → digits ≡ trimmed text → list_all is_ascii_digit digits ≡ false → option_map as_part_number (number_told text) ≡ None
told_other text digits are other = ap part_spelled (sym are) ∙ spelled_none (nat_lt 0 (length digits)) (list_all is_ascii_digit digits) (digits_value 10 digits) other

pub told_some : (text digits : List ℕ) → digits ≡ trimmed text → 0 < length digits → list_all is_ascii_digit digits ≡ true
    → option_map as_part_number (number_told text) ≡ Some (as_part_number (min (digits_value 10 digits) 10_001))
told_some text digits are some all =
    ap part_spelled (sym are) ∙ spelled_some (nat_lt 0 (length digits)) (list_all is_ascii_digit digits) (digits_value 10 digits) (lt-ltb 0 (length digits) some) all

pub ruleset told = (told_empty, told_other, told_some)
