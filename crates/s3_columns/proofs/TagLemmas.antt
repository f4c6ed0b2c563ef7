-- The text of a tag, taken apart.
use Rattle.std.proofs.Common.{◌≡◌, ℕ, ◌*◌, ◌<◌, ◌≤◌, ◌^◌, true, List, [], ◌∷◌, ◌++◌, length, take, drop, Option, Some, None, Ok, refl, sym, ap, ◌∙◌, arith}
use Rattle.std.specs.Prelude.{IfSome, IsSome}
use Rattle.std.specs.List.{list_all}
use Rattle.std.specs.Char.{is_ascii_digit, digit_value}
use Rattle.std.specs.Fmt.{decimal}
use Rattle.std.specs.Str.Parse.{AllDigits}
use Rattle.std.proofs.lemmas.Bool.{and_from, le-leb, cond-true}
use Rattle.std.proofs.lemmas.Bool.Decides.{nat_tests}
use Rattle.std.proofs.lemmas.Fmt.{decimal_is_IsNumeral, length-decimal-le}
use Rattle.std.proofs.lemmas.List.{append-nil, take_at, drop_at, length-append}
use Rattle.std.proofs.lemmas.Str.Parse.{digit_from_value}
use Rattle.hex.specs.Hex.{encode_lower, lower_digits, decode_sized}
use Rattle.hex.proofs.HexLemmas.{length-encode_with, decode_sized-encode_lower}
use Rattle.s3_text.specs.Digits.{is_decimal, decimal_number}
use Rattle.s3_names.specs.Tags.{tag_text, joined_text}
use Rattle.s3_columns.specs.Tags.{IsDigest, tail_text}

-- ---- the two parts of the text

pub tag_parts : (md5 : List ℕ) (parts : Option ℕ) → tag_text md5 parts ≡ encode_lower md5 ++ tail_text parts
unfolding joined_text
tag_parts md5 None = sym (append-nil (encode_lower md5))
tag_parts md5 (Some count) = refl

pub digest_length : (md5 : List ℕ) → IsDigest md5 → length (encode_lower md5) ≡ 32
digest_length md5 is = length-encode_with lower_digits md5 ∙ ap (λ n. 2 * n) is.len

pub digits_taken : (text md5 : List ℕ) (parts : Option ℕ) → IsDigest md5 → text ≡ tag_text md5 parts → take 32 text ≡ encode_lower md5
digits_taken text md5 parts is e =
    ap (take 32) (e ∙ tag_parts md5 parts) ∙ take_at (encode_lower md5) (tail_text parts) 32 (digest_length md5 is)

pub tail_dropped : (text md5 : List ℕ) (parts : Option ℕ) → IsDigest md5 → text ≡ tag_text md5 parts → drop 32 text ≡ tail_text parts
tail_dropped text md5 parts is e =
    ap (drop 32) (e ∙ tag_parts md5 parts) ∙ drop_at (encode_lower md5) (tail_text parts) 32 (digest_length md5 is)

pub text_long : (text md5 : List ℕ) (parts : Option ℕ) → IsDigest md5 → text ≡ tag_text md5 parts → 32 ≤ length text
text_long text md5 parts is e =
    omega (arith, ap length (e ∙ tag_parts md5 parts), length-append (encode_lower md5) (tail_text parts), digest_length md5 is)

-- an answer that is there, and is this text
pub some_same : (found : Option (List ℕ)) (text : List ℕ) → IsSome found → IfSome found (λ tag. text ≡ tag) → found ≡ Some text
some_same None text some is = absurd cc
some_same (Some tag) text some is = ap (λ (t : List ℕ). Some t) (sym is)

-- ---- the digits

pub digest_decoded : (md5 : List ℕ) → IsDigest md5 → decode_sized (encode_lower md5) 16 ≡ Ok md5
digest_decoded md5 is = decode_sized-encode_lower md5 16 is.len is.bytes

-- ---- the count

digit_from : (c : ℕ) → digit_value c < 10 → is_ascii_digit c ≡ true
digit_from c h = let between = digit_from_value c h in grind (arith, nat_tests)

digits_from : (ds : List ℕ) → AllDigits 10 ds → list_all is_ascii_digit ds ≡ true
digits_from [] all = refl
digits_from (c ∷ cs) all = and_from _ _ (digit_from c all.0) (digits_from cs all.1)

-- a count in decimal is read
pub count_read : (text : List ℕ) (count : ℕ) → count < 2 ^ 16 → text ≡ decimal count → decimal_number 5 text ≡ Some count
count_read text count small e =
    let numeral = decimal_is_IsNumeral count (omega arith) in
    let some : 1 ≤ length (decimal count) = numeral.0.0 in
    let short = length-decimal-le 5 count (omega arith) (omega arith) (omega arith) in
    let all : is_decimal 5 (decimal count) ≡ true =
    and_from _ _ (and_from _ _ (le-leb _ _ some) (le-leb _ _ short)) (digits_from (decimal count) numeral.0.1) in
    ap (decimal_number 5) e ∙ cond-true _ _ _ all ∙ ap (λ n. Some n) numeral.1
