-- The texts of ids, and the numbers that they are made of.
use Rattle.std.proofs.Common.{◌≡◌, ℕ, ◌^◌, ◌<◌, true, ◌&&◌, List, [], ◌∷◌, Some, ◌==◌, length, drop, refl, arith}
use Rattle.std.proofs.lemmas.Bool.Decides.{nat_tests}
use Rattle.std.proofs.lemmas.Bool.{and_parts, eqb-true}
use Rattle.std.specs.List.{list_all}
use Rattle.std.specs.Str.Parse.{digits_value}
use Rattle.s3_text.specs.Characters.{is_lower_hex}
use Rattle.s3_text.proofs.DigitLemmas.{number_digits_length, number_digits_lower, number_digits_value, number_digits_back}
use Rattle.s3_names.specs.Ids.{letter_v, numbered_id, is_numbered_id, number_of_id, version_id, version_id_text, HasSmallNumber}
use Rattle.s3_names.specs.declared.ids.VersionId.{VersionId}
use Rattle.s3_names.specs.declared.ids.VersionId.TheVariants.{Null, Numbered}

eqb_same : (n : ℕ) → (n == n) ≡ true
eqb_same n = grind (arith, nat_tests)

-- an id's text gives its number back
pub number_back : (letter number : ℕ) (text : List ℕ) → text ≡ numbered_id letter number → number < 2 ^ 64 → number_of_id letter text ≡ Some number
unfolding number_of_id is_numbered_id numbered_id
number_back letter number text e small =
    rw (e, number_digits_length number, number_digits_lower number, eqb_same letter, number_digits_value number small) refl

-- and a number gives the text back that it was read from
pub id_spelled : (letter : ℕ) (text : List ℕ) → is_numbered_id letter text ≡ true → text ≡ numbered_id letter (digits_value 16 (drop 1 text))
unfolding is_numbered_id numbered_id
id_spelled letter [] h = cc
id_spelled letter (b ∷ bs) h =
    let whole = and_parts ((length (b ∷ bs) == 17) && (b == letter)) (list_all is_lower_hex bs) h in
    let front = and_parts (length (b ∷ bs) == 17) (b == letter) whole.0 in
    let sixteen : length bs ≡ 16 = omega (arith, eqb-true (length (b ∷ bs)) 17 front.0) in
    rw (number_digits_back bs sixteen whole.1, eqb-true b letter front.1) refl

-- a version's text gives the version back
pub version_back : (id : VersionId) (text : List ℕ) → text ≡ version_id_text id → HasSmallNumber id → version_id text ≡ Some id
unfolding version_id numbered_id
version_back Null text e small = rw e refl
version_back (Numbered number) text e small = rw (e, number_back letter_v number _ refl small) refl
