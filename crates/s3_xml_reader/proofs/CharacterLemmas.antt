-- Where characters that XML doesn't have begin.
use Rattle.std.proofs.Common.{◌≡◌, ℕ, ◌+◌, ◌<◌, true, false, ◌||◌, List, [], ◌∷◌, length, drop, refl, sym, ap, ◌∙◌, get_or, add-one, drop-cons}
use Rattle.s3_xml.specs.Characters.{has_noncharacter}
use Rattle.s3_xml_reader.specs.Characters.{begins_with_noncharacter}

first_or_later : (a : ℕ) (bytes : List ℕ) → has_noncharacter (a ∷ bytes) ≡ (begins_with_noncharacter (a ∷ bytes) || has_noncharacter bytes)
first_or_later a [] = refl
first_or_later a (b ∷ []) = refl
first_or_later a (b ∷ c ∷ rest) = refl

at_place : (bytes : List ℕ) (at : ℕ) → at < length bytes → has_noncharacter (drop at bytes) ≡ (begins_with_noncharacter (drop at bytes) || has_noncharacter (drop (at + 1) bytes))
at_place bytes at within = rw (add-one, drop-cons bytes at 0) (first_or_later (get_or bytes at 0) _)

-- one begins here
pub noncharacter_here : (bytes : List ℕ) (at : ℕ) → at < length bytes → begins_with_noncharacter (drop at bytes) ≡ true → has_noncharacter (drop at bytes) ≡ true
noncharacter_here bytes at within is = at_place bytes at within ∙ ap (λ b. b || has_noncharacter (drop (at + 1) bytes)) is

-- none begins here
pub noncharacter_later : (bytes : List ℕ) (at : ℕ) → at < length bytes → begins_with_noncharacter (drop at bytes) ≡ false → has_noncharacter (drop (at + 1) bytes) ≡ has_noncharacter (drop at bytes)
noncharacter_later bytes at within is = sym (at_place bytes at within ∙ ap (λ b. b || has_noncharacter (drop (at + 1) bytes)) is)

pub ruleset noncharacters = (noncharacter_here, noncharacter_later)
