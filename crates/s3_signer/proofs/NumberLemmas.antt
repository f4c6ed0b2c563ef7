-- Numbers that lines tell, and the signature at the end of an authorization.
use Rattle.std.proofs.Common.{◌≡◌, ℕ, ◌+◌, ◌-◌, ◌*◌, ◌^◌, ◌<◌, ◌≤◌, Bool, true, false, List, [], ◌∷◌, ◌++◌, length, drop, codes, Some, None, refl, ap, ◌∙◌, arith, append_assoc, length-append}
use Rattle.std.specs.Prelude.{◌&&◌, nat_le, if◌then◌else◌}
use Rattle.std.specs.Fmt.{decimal}
use Rattle.std.specs.Char.{digit_value, is_ascii_digit}
use Rattle.std.specs.List.{list_all}
use Rattle.std.specs.Str.Parse.{AllDigits, digits_value}
use Rattle.std.proofs.lemmas.Bool.{and_from, and_parts, cond-true, le-leb, leb-true}
use Rattle.std.proofs.lemmas.Bool.Decides.{nat_tests}
use Rattle.std.proofs.lemmas.Fmt.{decimal_nonempty, digits_decimal, digits_value-decimal, length-decimal-le}
use Rattle.std.proofs.lemmas.List.{drop_at}
use Rattle.std.proofs.lemmas.Str.Parse.{digits_value_short, numerals_by_value, tells_digits}
use Rattle.hex.specs.Hex.{lower_digits}
use Rattle.hex.proofs.HexLemmas.{length-encode_with}
use Rattle.sha2.proofs.Facts256.{length-sha256}
use Rattle.httparse.specs.Grammar.{RequestHead}
use Rattle.s3_hmac.specs.Hmac.{hmac}
use Rattle.s3_text.specs.Digits.{decimal_number, is_decimal}
use Rattle.s3_text.proofs.DigitLemmas.{decimal_digits}
use Rattle.s3_http_heads.specs.BodyLength.{announced}
use Rattle.s3_http_heads.specs.Head.{parts_of}
use Rattle.s3_signing.specs.Authorize.{authorization_text, credential_text, signature_to_write}
use Rattle.s3_signing.specs.Names.{cover_of}
use Rattle.s3_signing.specs.Signature.{signature_of}
use Rattle.s3_signer.specs.Request.{authorization_of}

-- ---- numbers

-- a number that is said in 1 to 18 digits
said_small : (text : List ℕ) (n : ℕ) (b : Bool) → is_decimal 18 text ≡ b → (if b then Some (digits_value 10 text) else None) ≡ Some n → n < 10 ^ 18
said_small text n false is said = cc
said_small text n true is said =
    let both = and_parts (nat_le 1 (length text) && nat_le (length text) 18) (list_all is_ascii_digit text) is in
    let sizes = and_parts (nat_le 1 (length text)) (nat_le (length text) 18) both.0 in
    let same : digits_value 10 text ≡ n = one (digits_value 10 text) n said in
    omega (arith, same, digits_value_short (numerals_by_value (AllDigits 10) tells_digits) text 18 (decimal_digits text both.1) (leb-true _ _ sizes.1))
  where
    one : (a c : ℕ) → Some a ≡ Some c → a ≡ c
    one a c e = cc

-- what Content-Length announces is less than 10 to the 18th
pub announced_small : (lines : List (List ℕ)) (n : ℕ) → announced lines ≡ Some n → n < 10 ^ 18
announced_small [] n said = omega (arith, one 0 n said)
  where
    one : (a c : ℕ) → Some a ≡ Some c → a ≡ c
    one a c e = cc
announced_small (line ∷ []) n said = said_small line n (is_decimal 18 line) refl said
announced_small (line ∷ other ∷ others) n said = cc

decimal_digit : (c : ℕ) → digit_value c < 10 → is_ascii_digit c ≡ true
decimal_digit c small = grind (arith, nat_tests)

all_decimal : (text : List ℕ) → AllDigits 10 text → list_all is_ascii_digit text ≡ true
all_decimal [] all = refl
all_decimal (c ∷ cs) all = and_from _ _ (decimal_digit c all.0) (all_decimal cs all.1)

-- a number that is printed is read
pub decimal_read : (n : ℕ) → n < 10 ^ 18 → decimal_number 18 (decimal n) ≡ Some n
decimal_read n small =
    let fits : n < 2 ^ 64 = omega (arith, small) in
    let own = numerals_by_value (AllDigits 10) tells_digits in
    let some : nat_le 1 (length (decimal n)) ≡ true = le-leb _ _ (omega (arith, decimal_nonempty n fits)) in
    let few : nat_le (length (decimal n)) 18 ≡ true = le-leb _ _ (length-decimal-le 18 n (omega arith) (omega (arith, small)) (omega (arith, small))) in
    let is : is_decimal 18 (decimal n) ≡ true = and_from _ _ (and_from _ _ some few) (all_decimal (decimal n) (digits_decimal own n fits)) in
    cond-true _ _ _ is ∙ ap Some (digits_value-decimal own n fits)

-- ---- the signature

length-signature : (secret region stamp : List ℕ) (head : RequestHead) → length (signature_to_write secret region (parts_of head) stamp) ≡ 64
unfolding signature_of hmac
length-signature secret region stamp head = length-encode_with lower_digits _ ∙ ap (λ n. 2 * n) (length-sha256 _)

behind : (a b c d e f : List ℕ) → a ++ b ++ c ++ d ++ e ++ f ≡ (a ++ b ++ c ++ d ++ e) ++ f
behind a b c d e f = simp append_assoc

-- the value that signs a head ends with its signature
pub ends_signed : (id secret region stamp : List ℕ) (head : RequestHead) (value : List ℕ) → value ≡ authorization_of id secret region head stamp → (64 ≤ length value) × (drop (length value - 64) value ≡ signature_to_write secret region (parts_of head) stamp)
unfolding authorization_text
ends_signed id secret region stamp head value is =
    let signature = signature_to_write secret region (parts_of head) stamp in
    let front : List ℕ = codes "AWS4-HMAC-SHA256 Credential=" ++ credential_text id stamp region ++ codes ", SignedHeaders=" ++ cover_of (parts_of head) ++ codes ", Signature=" in
    let cut : value ≡ front ++ signature = is ∙ behind (codes "AWS4-HMAC-SHA256 Credential=") (credential_text id stamp region) (codes ", SignedHeaders=") (cover_of (parts_of head)) (codes ", Signature=") signature in
    let size : length value ≡ length front + length signature = ap length cut ∙ length-append front signature in
    let digits = length-signature secret region stamp head in (
      omega (arith, size, digits),
      ap (drop (length value - 64)) cut ∙ drop_at front signature (length value - 64) (omega (arith, size, digits)),
    )
