-- The text of a tag.
use Rattle.std.proofs.Common.{◌≡◌, refl, ℕ, zero, suc, ◌/◌, ◌%◌, ◌<◌, Bool, true, false, if◌then◌else◌, List, [], ◌∷◌, ◌++◌, ◌∙◌, ◌==◌, length, slice_index, get_or, take, ◌+◌, ◌-◌, ◌≤◌, ◌^◌, append_assoc, arith}
use Rattle.std.specs.List.{list_all}
use Rattle.std.specs.Fmt.{digits, digits_onto, digit_glyph, decimal}
use Rattle.std.proofs.lemmas.Bool.{and_parts, and_from}
use Rattle.std.proofs.lemmas.Bool.Decides.{nat_tests}
use Rattle.std.proofs.lemmas.List.{length-append}
use Rattle.std.proofs.lemmas.List.Folds.{list_all-append}
use Rattle.std.proofs.lemmas.Slice.{take-put_mid}
use Rattle.std.proofs.Math.Seq.{take-append_seam, take-append-add}
use borrow.Rule.Slice.PartMut.{put_mid}
use Rattle.std.proofs.lemmas.Fmt.{length-decimal-le}
use Rattle.hex.specs.Hex.{encode_lower, encode_with, lower_digits}
use Rattle.hex.proofs.HexLemmas.{length-encode_with}
use Rattle.s3_text.specs.Characters.{hyphen}
use Rattle.s3_names.specs.Tags.{is_tag_character, joined_text}

-- what holds of all holds of each
one_of : (ds : List ℕ) (i : ℕ) → i < length ds → list_all is_tag_character ds ≡ true → is_tag_character (slice_index ds i) ≡ true
one_of [] i within all = absurd (omega arith)
one_of (d ∷ ds) zero within all = (and_parts (is_tag_character d) (list_all is_tag_character ds) all).0
one_of (d ∷ ds) (suc i) within all = one_of ds i (omega arith) (and_parts (is_tag_character d) (list_all is_tag_character ds) all).1

-- bytes are written in lower-case hexadecimal digits
pub digest_characters : (bytes : List ℕ) → ((i : ℕ) → get_or bytes i 0 < 256) → list_all is_tag_character (encode_lower bytes) ≡ true
unfolding encode_with
digest_characters [] small = refl
digest_characters (b ∷ bytes) small =
    let fits : b < 256 = small 0 in
    let high = one_of lower_digits (b / 16) (omega arith) refl in
    let low = one_of lower_digits (b % 16) (omega arith) refl in
    rw (high, low) (digest_characters bytes (λ i. small (suc i)))

-- and a count in decimal ones
digit_character : (n : ℕ) → is_tag_character (digit_glyph false (n % 10)) ≡ true
digit_character n = grind (arith, nat_tests)

either_characters : (b : Bool) (x y : List ℕ) → list_all is_tag_character x ≡ true → list_all is_tag_character y ≡ true → list_all is_tag_character (if b then x else y) ≡ true
either_characters true x y first second = first
either_characters false x y first second = second

more_digits : (k n : ℕ) (rest : List ℕ) → list_all is_tag_character rest ≡ true → list_all is_tag_character (digits_onto k 10 false n rest) ≡ true
more_digits zero n rest are = are
more_digits (suc k) n rest are =
    let more : list_all is_tag_character (digit_glyph false (n % 10) ∷ rest) ≡ true = rw (digit_character n) are in
    either_characters (n / 10 == 0) (digit_glyph false (n % 10) ∷ rest) (digits_onto k 10 false (n / 10) (digit_glyph false (n % 10) ∷ rest))
    more (more_digits k (n / 10) (digit_glyph false (n % 10) ∷ rest) more)

decimal_characters : (n : ℕ) → list_all is_tag_character (decimal n) ≡ true
unfolding digits
decimal_characters n = more_digits 64 n [] refl

-- so the tag of joined parts has characters of tags alone
pub joined_characters : (md5 : List ℕ) (parts : ℕ) → list_all is_tag_character (encode_lower md5) ≡ true → list_all is_tag_character (joined_text md5 parts) ≡ true
unfolding joined_text
joined_characters md5 parts are =
    list_all-append is_tag_character (encode_lower md5) (hyphen ∷ decimal parts)
    ∙ and_from _ _ are (decimal_characters parts)

-- and is short
pub joined_length : (md5 : List ℕ) (parts : ℕ) → length md5 ≡ 16 → parts < 2 ^ 16 → length (joined_text md5 parts) ≤ 38
unfolding joined_text
joined_length md5 parts long small =
    omega (arith, length-encode_with lower_digits md5, length-append (encode_lower md5) (hyphen ∷ decimal parts), length-decimal-le 5 parts (omega arith) (omega arith) (omega arith), long)

-- ---- where a text lies

-- a text stands in front of what it was put over
pub text_placed : (text rest : List ℕ) → take (length text) (text ++ rest) ≡ text
text_placed text rest = take-append_seam text rest

-- ---- where the text of a tag lies

-- a digest stands in front of what it was put over
pub digest_placed : (digest rest : List ℕ) → length digest ≡ 32 → take 32 (digest ++ rest) ≡ digest
digest_placed digest rest long = rw (← long) (take-append_seam digest rest)

-- and a count behind the hyphen that follows it
pub count_placed : (digest rest count : List ℕ) → length digest ≡ 32 → length rest ≡ 5 → length count ≤ 5
    → take (33 + length count) (put_mid 33 (33 + length count - 33) (digest ++ hyphen ∷ rest) count) ≡ digest ++ hyphen ∷ count
count_placed digest rest count long five few =
    let room : 33 + length count ≤ length (digest ++ hyphen ∷ rest) = rw (length-append digest (hyphen ∷ rest)) (omega arith) in
    let seam : 33 ≡ length digest + 1 = omega arith in
    let front : take 33 (digest ++ hyphen ∷ rest) ≡ digest ++ hyphen ∷ [] = rw seam (take-append-add digest (hyphen ∷ rest) 1) in
    let whole : take (33 + length count) (put_mid 33 (33 + length count - 33) (digest ++ hyphen ∷ rest) count) ≡ take 33 (digest ++ hyphen ∷ rest) ++ count =
    take-put_mid 33 (33 + length count - 33) (digest ++ hyphen ∷ rest) count (33 + length count) (omega arith) (omega arith) in
    rw (whole, front, append_assoc digest (hyphen ∷ []) count) refl
