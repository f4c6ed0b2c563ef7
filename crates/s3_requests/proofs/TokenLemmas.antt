-- A text's hexadecimal digits are read back as the text.
use Rattle.std.proofs.Common.{◌≡◌, ℕ, zero, suc, ◌<◌, ◌/◌, ◌%◌, ⊎_elim, Bool, true, List, [], ◌∷◌, refl, subst, ◌∙◌, arith, IsUtf8, Ok}
use Rattle.std.specs.Prelude.{nat_lt, slice_index}
use Rattle.std.specs.List.{list_all}
use Rattle.std.proofs.lemmas.Bool.{and_parts, and_from, agree_below_at, ltb-true}
use Rattle.std.proofs.lemmas.Bool.Decides.{nat_tests}
use Rattle.std.proofs.lemmas.List.Folds.{list_all-append}
use Rattle.std.proofs.lemmas.Str.{is_utf8-from_IsUtf8}
use lib.Utf8.{scalar, scalars, scalar_cases, encode, encodes}
use Rattle.hex.specs.Hex.{IsBytes, encode_with, encode_lower, lower_digits}
use Rattle.hex.proofs.HexLemmas.{decode_of-encode_lower}
use Rattle.s3_text.specs.Characters.{is_lower_hex}
use Rattle.s3_prefixes.specs.Text.{text_read}
use Rattle.s3_requests.specs.ListArguments.{bytes_spelled}
use Rattle.s3_requests.specs.Laws.{TokensAreReadBack}

-- ---- a text of UTF-8 is made of bytes

abbrev is_byte : ℕ → Bool
is_byte b = nat_lt b 256

scalar_below : (c : ℕ) → scalar c ≡ true → c < 1_114_112
scalar_below c is = ⊎_elim (λ low. omega arith) (λ high. high.1) (scalar_cases c is)

encoded_in_bytes : (c : ℕ) → c < 1_114_112 → list_all is_byte (encode c) ≡ true
unfolding encode
encoded_in_bytes c below = grind (arith, nat_tests)

in_bytes : (cs : List ℕ) → scalars cs ≡ true → list_all is_byte (encodes cs) ≡ true
in_bytes [] are = refl
in_bytes (c ∷ cs) are =
    let both = and_parts (scalar c) (scalars cs) are in
    list_all-append is_byte (encode c) (encodes cs)
    ∙ and_from _ _ (encoded_in_bytes c (scalar_below c both.0)) (in_bytes cs both.1)

are_bytes : (xs : List ℕ) → list_all is_byte xs ≡ true → IsBytes xs
are_bytes [] all i = omega arith
are_bytes (x ∷ xs) all zero = ltb-true x 256 (and_parts (is_byte x) (list_all is_byte xs) all).0
are_bytes (x ∷ xs) all (suc i) = are_bytes xs (and_parts (is_byte x) (list_all is_byte xs) all).1 i

bytes_of_text : (text : List ℕ) → IsUtf8 text → IsBytes text
bytes_of_text text is = subst IsBytes is.1.1 (are_bytes (encodes is.0) (in_bytes is.0 is.1.0))

-- ---- its digits are in lower case

digit_lower : (n : ℕ) → n < 16 → is_lower_hex (slice_index lower_digits n) ≡ true
digit_lower n below = agree_below_at (λ i. is_lower_hex (slice_index lower_digits i)) (λ i. true) 16 n refl below

digits_lower : (bytes : List ℕ) → IsBytes bytes → list_all is_lower_hex (encode_lower bytes) ≡ true
unfolding encode_with
digits_lower [] are = refl
digits_lower (b ∷ bytes) are =
    let below : b < 256 = are 0 in
    and_from _ _ (digit_lower (b / 16) (omega arith))
    (and_from _ _ (digit_lower (b % 16) (omega arith)) (digits_lower bytes (λ i. are (suc i))))

-- ---- and they are read back

spelled_back : (bytes : List ℕ) → IsBytes bytes → bytes_spelled (encode_lower bytes) ≡ Ok bytes
unfolding bytes_spelled
spelled_back bytes are = rw (digits_lower bytes are, decode_of-encode_lower bytes are) refl

text_back : (text : List ℕ) → IsUtf8 text → text_read text ≡ Ok text
unfolding text_read
text_back text is = rw (is_utf8-from_IsUtf8 text is) refl

pub tokens_are_read_back : TokensAreReadBack
tokens_are_read_back text is = rw (spelled_back text (bytes_of_text text is), text_back text is) refl
