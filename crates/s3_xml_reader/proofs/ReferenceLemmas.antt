-- Digits, one after another.
use Rattle.std.proofs.Common.{◌≡◌, ℕ, suc, ◌+◌, ◌*◌, ◌<◌, ◌≤◌, Bool, true, false, ◌&&◌, nat_lt, List, [], ◌∷◌, length, drop, refl, sym, ap, ◌∙◌, arith, get_or, add-one, drop-cons, Option, Some, None, if◌then◌else◌, codes, ⊎_elim}
use Rattle.std.proofs.Math.Nat.{mul-le-mul_left}
use Rattle.std.proofs.lemmas.Bool.{cases_lt, lt-ltb}
use Rattle.std.proofs.lemmas.Bool.Decides.{nat_tests}
use Rattle.std.proofs.lemmas.List.{drop_all}
use Rattle.std.specs.Char.{is_digit, digit_value, encode_utf8}
use Rattle.std.specs.Str.{bytes_eq}
use Rattle.std.specs.List.{list_all}
use Rattle.std.specs.Str.Parse.{digits_value, digits_value_after}
use Rattle.s3_xml.specs.Grammar.{number_of, character_of, referred, begins_with, behind}
use Rattle.s3_xml.specs.Option.{◌>>=◌}
use Rattle.s3_xml_reader.specs.References.{within_characters, with_digit, number_within, numbered, entity}

-- the number that the digits of a number and these behind them spell, unless it is above those of characters
abbrev pub spelled_behind : ℕ → ℕ → List ℕ → Option ℕ
spelled_behind radix number digits =
    if list_all (λ d. is_digit d radix) digits then within_characters (digits_value_after radix number digits) else None

-- more digits spell no smaller number
value_grows : (radix number : ℕ) (digits : List ℕ) → 1 ≤ radix → number ≤ digits_value_after radix number digits
value_grows radix number [] low = omega arith
value_grows radix number (c ∷ cs) low =
    omega (arith, value_grows radix (number * radix + digit_value c) cs low, mul-le-mul_left number low)

within_none : (number more : ℕ) → number ≤ more → within_characters number ≡ None → within_characters more ≡ None
within_none number more below is = grind (arith, nat_tests)

none_if : (t : Bool) (a : Option ℕ) → a ≡ None → (if t then a else None) ≡ None
none_if true a is = is
none_if false a is = refl

spelled_none : (t u : Bool) (radix number : ℕ) (c : ℕ) (cs : List ℕ) → 1 ≤ radix → (if t then within_characters (number * radix + digit_value c) else None) ≡ None
    → (if t && u then within_characters (digits_value_after radix number (c ∷ cs)) else None) ≡ None
spelled_none true u radix number c cs low is =
    none_if u _ (within_none _ _ (value_grows radix (number * radix + digit_value c) cs low) is)
spelled_none false u radix number c cs low is = refl

within_some : (number more : ℕ) → within_characters number ≡ Some more → number ≡ more
within_some number more is = grind (arith, nat_tests)

spelled_some : (t u : Bool) (radix number more : ℕ) (c : ℕ) (cs : List ℕ) → (if t then within_characters (number * radix + digit_value c) else None) ≡ Some more
    → (if t && u then within_characters (digits_value_after radix number (c ∷ cs)) else None) ≡ (if u then within_characters (digits_value_after radix more cs) else None)
spelled_some true u radix number more c cs is = rw (within_some (number * radix + digit_value c) more is)
spelled_some false u radix number more c cs is = absurd (cc)

-- the first byte is no digit, or the number is above those of characters with it
pub spelled_no_more : (radix number : ℕ) (digits : List ℕ) (at : ℕ) → at < length digits → 1 ≤ radix → with_digit radix number (get_or digits at 0) ≡ None → spelled_behind radix number (drop at digits) ≡ None
spelled_no_more radix number digits at within low is =
    rw (drop-cons digits at 0) (spelled_none (is_digit (get_or digits at 0) radix) _ radix number (get_or digits at 0) (drop (suc at) digits) low is)

-- the number with it is one
pub spelled_more : (radix number more : ℕ) (digits : List ℕ) (at : ℕ) → at < length digits → with_digit radix number (get_or digits at 0) ≡ Some more → spelled_behind radix more (drop (at + 1) digits) ≡ spelled_behind radix number (drop at digits)
spelled_more radix number more digits at within is =
    rw (drop-cons digits at 0, add-one) (sym (spelled_some (is_digit (get_or digits at 0) radix) _ radix number more (get_or digits at 0) (drop (suc at) digits) is))

within_all : (number : ℕ) → number < 1_114_112 → within_characters number ≡ Some number
within_all number below = grind (arith, nat_tests)

-- there is no more
pub spelled_all : (radix number : ℕ) (digits : List ℕ) (at : ℕ) → length digits ≤ at → number < 1_114_112 → spelled_behind radix number (drop at digits) ≡ Some number
spelled_all radix number digits at past below = rw (drop_all at digits past) (within_all number below)

if_some : (some t : Bool) (number : ℕ) → some ≡ true → ((if some && t then Some number else None) >>= within_characters) ≡ (if t then within_characters number else None)
if_some true true number is = refl
if_some true false number is = refl
if_some false t number is = absurd (cc)

-- and before the first of some digits
pub spelled_first : (radix : ℕ) (digits : List ℕ) → 0 < length digits → spelled_behind radix 0 digits ≡ number_within radix digits
unfolding number_within
spelled_first radix [] some = absurd (omega arith)
spelled_first radix (c ∷ cs) some =
    sym (if_some (nat_lt 0 (length (c ∷ cs))) (list_all (λ d. is_digit d radix) (c ∷ cs)) (digits_value radix (c ∷ cs)) (lt-ltb 0 (length (c ∷ cs)) some))

pub spelled_nothing : (radix : ℕ) (digits : List ℕ) → length digits ≡ 0 → number_within radix digits ≡ None
unfolding number_within
spelled_nothing radix [] none = refl
spelled_nothing radix (c ∷ cs) none = absurd (omega arith)

pub ruleset digits = (spelled_first, spelled_nothing, spelled_no_more, spelled_more, spelled_all)

within_first : (number : ℕ) → character_of number ≡ (within_characters number >>= character_of)
within_first number =
    ⊎_elim
    (λ (below : number < 1_114_112). rw (within_all number below))
    (λ (above : 1_114_112 ≤ number). grind (arith, nat_tests))
    (cases_lt number 1_114_112)

some_within : (number : Option ℕ) → (number >>= character_of) ≡ ((number >>= within_characters) >>= character_of)
some_within None = refl
some_within (Some number) = within_first number

numbered_within : (radix : ℕ) (digits : List ℕ) → numbered radix digits ≡ (number_within radix digits >>= character_of)
unfolding numbered number_within
numbered_within radix digits = some_within (number_of radix digits)

-- a number above those of characters has no character
pub numbered_none : (radix : ℕ) (digits : List ℕ) → number_within radix digits ≡ None → numbered radix digits ≡ None
numbered_none radix digits is = numbered_within radix digits ∙ ap (λ number. number >>= character_of) is

pub numbered_some : (radix : ℕ) (digits : List ℕ) (number : ℕ) → number_within radix digits ≡ Some number → numbered radix digits ≡ character_of number
numbered_some radix digits number is = numbered_within radix digits ∙ ap (λ number. number >>= character_of) is

pub ruleset numbers = (numbered_none, numbered_some)

-- what a reference stands for, by the entity that it names, or else by its number
abbrev by_entity : Option ℕ → Option (List ℕ) → Option (List ℕ)
by_entity (Some character) other = Some (encode_utf8 character)
by_entity None other = other

abbrev by_digits : ℕ → Option (List ℕ) → Option (List ℕ) → Option (List ℕ)
by_digits radix (Some digits) other = numbered radix digits
by_digits radix None other = other

abbrev by_number : List ℕ → Option (List ℕ)
by_number name = by_digits 16 (behind (codes "#x") name) (by_digits 10 (behind (codes "#") name) None)

number_cases : (x d : Bool) (name : List ℕ) → (if x then (number_of 16 (drop 2 name) >>= character_of) else if d then (number_of 10 (drop 1 name) >>= character_of) else None)
    ≡ by_digits 16 (if x then Some (drop 2 name) else None) (by_digits 10 (if d then Some (drop 1 name) else None) None)
unfolding numbered
number_cases true d name = refl
number_cases false true name = refl
number_cases false false name = refl

entity_cases : (amp lt gt quot apos : Bool) (other : Option (List ℕ)) → (if amp then Some (codes "&") else if lt then Some (codes "<") else if gt then Some (codes ">") else if quot then Some (codes "\"") else if apos then Some (codes "'") else other)
    ≡ by_entity (if amp then Some 38 else if lt then Some 60 else if gt then Some 62 else if quot then Some 34 else if apos then Some 39 else None) other
unfolding encode_utf8
entity_cases true lt gt quot apos other = refl
entity_cases false true gt quot apos other = refl
entity_cases false false true quot apos other = refl
entity_cases false false false true apos other = refl
entity_cases false false false false true other = refl
entity_cases false false false false false other = refl

referred_is : (name : List ℕ) → referred name ≡ by_entity (entity name) (by_number name)
unfolding referred entity
referred_is name =
    entity_cases (bytes_eq name (codes "amp")) (bytes_eq name (codes "lt")) (bytes_eq name (codes "gt")) (bytes_eq name (codes "quot")) (bytes_eq name (codes "apos")) _
    ∙ ap (by_entity (entity name)) (number_cases (begins_with (codes "#x") name) (begins_with (codes "#") name) name)

pub referred_entity : (name : List ℕ) (character : ℕ) → entity name ≡ Some character → referred name ≡ Some (encode_utf8 character)
referred_entity name character is = referred_is name ∙ ap (λ e. by_entity e (by_number name)) is

else_number : (name : List ℕ) → entity name ≡ None → referred name ≡ by_number name
else_number name is = referred_is name ∙ ap (λ e. by_entity e (by_number name)) is

pub referred_hex : (name digits : List ℕ) → entity name ≡ None → behind (codes "#x") name ≡ Some digits → referred name ≡ numbered 16 digits
referred_hex name digits none is =
    else_number name none ∙ ap (λ hex. by_digits 16 hex (by_digits 10 (behind (codes "#") name) None)) is

else_decimal : (name : List ℕ) → entity name ≡ None → behind (codes "#x") name ≡ None → referred name ≡ by_digits 10 (behind (codes "#") name) None
else_decimal name none is =
    else_number name none ∙ ap (λ hex. by_digits 16 hex (by_digits 10 (behind (codes "#") name) None)) is

pub referred_decimal : (name digits : List ℕ) → entity name ≡ None → behind (codes "#x") name ≡ None → behind (codes "#") name ≡ Some digits → referred name ≡ numbered 10 digits
referred_decimal name digits none not_hex is =
    else_decimal name none not_hex ∙ ap (λ decimal. by_digits 10 decimal None) is

pub referred_nothing : (name : List ℕ) → entity name ≡ None → behind (codes "#x") name ≡ None → behind (codes "#") name ≡ None → referred name ≡ None
referred_nothing name none not_hex is =
    else_decimal name none not_hex ∙ ap (λ decimal. by_digits 10 decimal None) is

pub ruleset references = (referred_entity, referred_hex, referred_decimal, referred_nothing)
