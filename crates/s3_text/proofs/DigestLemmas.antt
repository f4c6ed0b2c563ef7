-- The hexadecimal text of 32 bytes has the form of a digest.
use Rattle.std.proofs.Common.{◌≡◌, ℕ, suc, ◌/◌, ◌%◌, ◌*◌, ◌<◌, true, List, [], ◌∷◌, length, refl, ap, ◌∙◌, arith}
use Rattle.std.specs.Prelude.{slice_index}
use Rattle.std.specs.List.{list_all}
use Rattle.std.proofs.lemmas.Bool.{and_from, agree_below_at, eq-eqb}
use Rattle.hex.specs.Hex.{IsBytes, encode_with, encode_lower, lower_digits}
use Rattle.hex.proofs.HexLemmas.{length-encode_with}
use Rattle.s3_text.specs.Characters.{is_lower_hex}
use Rattle.s3_text.specs.Digest.{is_hex_digest}

digit_lower : (n : ℕ) → n < 16 → is_lower_hex (slice_index lower_digits n) ≡ true
digit_lower n below = agree_below_at (λ i. is_lower_hex (slice_index lower_digits i)) (λ i. true) 16 n refl below

encoded_all : (bytes : List ℕ) → IsBytes bytes → list_all is_lower_hex (encode_lower bytes) ≡ true
unfolding encode_with
encoded_all [] are = refl
encoded_all (b ∷ bytes) are =
    let below : b < 256 = are 0 in
    and_from _ _ (digit_lower (b / 16) (omega arith))
    (and_from _ _ (digit_lower (b % 16) (omega arith)) (encoded_all bytes (λ i. are (suc i))))

pub digest_form : (bytes : List ℕ) → length bytes ≡ 32 → IsBytes bytes → is_hex_digest (encode_lower bytes) ≡ true
digest_form bytes size are =
    and_from _ _
    (eq-eqb (length (encode_lower bytes)) 64 (length-encode_with lower_digits bytes ∙ ap (λ n. 2 * n) size))
    (encoded_all bytes are)
