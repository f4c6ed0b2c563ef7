-- Texts that are told UriEncoded.
use Rattle.std.proofs.Common.{◌≡◌, refl, sym, ap, ◌∙◌, ◌<◌, ◌≤◌, ◌+◌, ◌*◌, ◌/◌, ◌%◌, ◌==◌, ◌||◌, Bool, true, false, if◌then◌else◌, ℕ, List, [], ◌∷◌, ◌++◌, append-nil, length, length-append, drop, slice_index, arith}
use Rattle.std.specs.List.{flat_map, list_all}
use Rattle.std.proofs.lemmas.Bool.Decides.{nat_tests}
use Rattle.std.proofs.lemmas.List.{drop_more, drop_all}
use Rattle.std.specs.Fmt.{digit_glyph}
use Rattle.s3_canonical.specs.Percent.{percent_encode_byte}
use Rattle.s3_canonical.specs.Encoding.{encode_path, is_unreserved}
use Rattle.s3_text.specs.Characters.{slash}
use Rattle.s3_xml.specs.Events.{text_in}
use Rattle.s3_xml.specs.Printed.{escaped, markup}
use Rattle.s3_documents.specs.Xml.{is_plain}
use Rattle.s3_documents.proofs.XmlPlainLemmas.{plain_alone, joined_plain}

-- a byte stays as it is
abbrev is_kept : ℕ → Bool
is_kept b = is_unreserved b || b == slash

-- what stands for one byte
abbrev encoded_byte : ℕ → List ℕ
encoded_byte b = if is_kept b then b ∷ [] else percent_encode_byte b

encoded_as : (s : List ℕ) → encode_path s ≡ flat_map encoded_byte s
unfolding encode_path
encoded_as s = refl

pub encoded_alone : (b : ℕ) → encode_path (b ∷ []) ≡ encoded_byte b
unfolding encode_path
encoded_alone b = append-nil (encoded_byte b)

pub encoded_none : encode_path [] ≡ []
unfolding encode_path
encoded_none = refl

-- from a place on
pub encoded_from : (xs : List ℕ) (i : ℕ) → i < length xs
    → encode_path (drop i xs) ≡ encode_path (slice_index xs i ∷ []) ++ encode_path (drop (i + 1) xs)
unfolding encode_path
encoded_from xs i lt =
    ap (flat_map encoded_byte) (drop_more xs i 0 lt)
    ∙ ap (λ y. y ++ flat_map encoded_byte (drop (i + 1) xs)) (sym (append-nil (encoded_byte (slice_index xs i))))

-- ---- nothing of it is to be escaped

kept_plain : (b : ℕ) → is_kept b ≡ true → is_plain b ≡ true
kept_plain b kept = grind (arith, nat_tests)

glyph_plain : (d : ℕ) → d < 16 → is_plain (digit_glyph true d) ≡ true
glyph_plain d small = grind (arith, nat_tests)

escape_plain : (high low : ℕ) → high < 16 → low < 16 → list_all is_plain (37 ∷ digit_glyph true high ∷ digit_glyph true low ∷ []) ≡ true
escape_plain high low h l = rw (glyph_plain high h, glyph_plain low l) refl

byte_plain : (b : ℕ) → list_all is_plain (encoded_byte b) ≡ true
unfolding percent_encode_byte
byte_plain b = one (is_kept b) refl
  where
    one : (kept : Bool) → is_kept b ≡ kept → list_all is_plain (if kept then b ∷ [] else percent_encode_byte b) ≡ true
    one true is = rw (kept_plain b is) refl
    one false is = escape_plain (b / 16 % 16) (b % 16) (omega arith) (omega arith)

pub encoded_plain : (s : List ℕ) → list_all is_plain (encode_path s) ≡ true
unfolding encode_path
encoded_plain [] = refl
encoded_plain (b ∷ s) = joined_plain (encoded_byte b) (flat_map encoded_byte s) (byte_plain b) (encoded_plain s)

-- ---- what is written of a byte

text_in_text : (s : List ℕ) → markup (text_in s) ≡ escaped s
unfolding escaped
text_in_text [] = refl
text_in_text (b ∷ s) = append-nil (escaped (b ∷ s))

written_plain : (s : List ℕ) → list_all is_plain s ≡ true → markup (text_in s) ≡ s
written_plain s plain = text_in_text s ∙ plain_alone s plain

pub kept_byte : (b : ℕ) → is_kept b ≡ true → markup (text_in (b ∷ [])) ≡ encode_path (b ∷ [])
kept_byte b kept =
    written_plain (b ∷ []) (rw (kept_plain b kept) refl)
    ∙ sym (encoded_alone b ∙ ap (λ is. if is then b ∷ [] else percent_encode_byte b) kept)

pub other_byte : (b : ℕ) → b < 256 → is_kept b ≡ false
    → markup (text_in (37 ∷ digit_glyph true (b / 16) ∷ digit_glyph true (b % 16) ∷ [])) ≡ encode_path (b ∷ [])
unfolding percent_encode_byte
other_byte b small other =
    let high : b / 16 % 16 ≡ b / 16 = omega arith in
    written_plain (37 ∷ digit_glyph true (b / 16) ∷ digit_glyph true (b % 16) ∷ []) (escape_plain (b / 16) (b % 16) (omega arith) (omega arith))
    ∙ sym (encoded_alone b ∙ ap (λ is. if is then b ∷ [] else percent_encode_byte b) other ∙ ap (λ d. 37 ∷ digit_glyph true d ∷ digit_glyph true (b % 16) ∷ []) high)

pub encoded_as_it_is : (s : List ℕ) → escaped (encode_path s) ≡ encode_path s
encoded_as_it_is s = plain_alone (encode_path s) (encoded_plain s)

pub encoded_markup : (s : List ℕ) → markup (text_in (encode_path s)) ≡ encode_path s
encoded_markup s = written_plain (encode_path s) (encoded_plain s)

-- ---- room

byte_room : (b : ℕ) → length (encoded_byte b) ≤ 3
unfolding percent_encode_byte
byte_room b = one (is_kept b)
  where
    one : (kept : Bool) → length (if kept then b ∷ [] else percent_encode_byte b) ≤ 3
    one true = omega arith
    one false = omega arith

pub encoded_room : (s : List ℕ) → length (encode_path s) ≤ 3 * length s
unfolding encode_path
encoded_room [] = omega arith
encoded_room (b ∷ s) = omega (arith, byte_room b, encoded_room s, length-append (encoded_byte b) (flat_map encoded_byte s))

-- from a place on, by how long it is; and behind the last byte
pub encoded_from_length : (xs : List ℕ) (i : ℕ) → i < length xs
    → length (encode_path (drop i xs)) ≡ length (encode_path (slice_index xs i ∷ [])) + length (encode_path (drop (i + 1) xs))
encoded_from_length xs i lt =
    ap length (encoded_from xs i lt) ∙ length-append (encode_path (slice_index xs i ∷ [])) (encode_path (drop (i + 1) xs))

pub encoded_whole : (xs : List ℕ) (i : ℕ) → length xs ≤ i → encode_path (drop i xs) ≡ []
encoded_whole xs i past = ap encode_path (drop_all i xs past) ∙ encoded_none
