-- Texts of which nothing is escaped.
use Rattle.std.proofs.Common.{◌≡◌, ℕ, zero, suc, ◌==◌, nat_lt, List, [], ◌∷◌, ◌++◌, length, Bool, true, false, ◌&&◌, if◌then◌else◌, Some, None, ap, ap₂, refl, ◌∙◌, arith}
use Rattle.std.specs.List.{list_all}
use Rattle.std.specs.Str.{IsAscii}
use Rattle.std.proofs.lemmas.Bool.{and_from, or_parts, not-true, eqb-false, ltb-false, ltb-true}
use Rattle.std.proofs.lemmas.Str.{IsUtf8-from_ascii}
use Rattle.json.specs.Print.{escape, quoted}
use Rattle.json.specs.Run.{is_plain, is_stop}
use Rattle.json.proofs.Printed.Strings.{escape_byte_plain}
use Rattle.s3_documents.specs.Tree as values
use Rattle.s3_log.specs.Line.{in_quotes, is_usual, led, led_plain, text_told}
use Rattle.s3_log.proofs.LineLemmas.{told_text}

both_true : (x y : Bool) → (x && y) ≡ true → (x ≡ true) × (y ≡ true)
both_true true true is = (refl, refl)
both_true true false is = absurd (cc)
both_true false y is = absurd (cc)

plain_escape : (text : List ℕ) → list_all is_plain text ≡ true → escape text ≡ text
plain_escape [] is = refl
plain_escape (x ∷ xs) is =
    let both = both_true (is_plain x) (list_all is_plain xs) is in
    let none = or_parts _ _ (not-true (is_stop x) both.0) in
    let tests = or_parts (x == 34) _ none.0 in
    ap₂ (λ (a b : List ℕ). a ++ b) (escape_byte_plain x (eqb-false x 34 tests.0) (eqb-false x 92 tests.1) (ltb-false x 32 none.1)) (plain_escape xs both.1)

plain_text : (bytes : List ℕ) → list_all is_plain bytes ≡ true → quoted bytes ≡ in_quotes bytes
plain_text bytes are = ap (λ (t : List ℕ). 34 ∷ (t ++ 34 ∷ [])) (plain_escape bytes are)

usual_plain : (text : List ℕ) → list_all is_usual text ≡ true → list_all is_plain text ≡ true
usual_plain [] is = refl
usual_plain (x ∷ xs) is =
    let all = both_true (is_usual x) (list_all is_usual xs) is in
    and_from _ _ (both_true (nat_lt x 128) (is_plain x) all.0).1 (usual_plain xs all.1)

usual_ascii : (text : List ℕ) → list_all is_usual text ≡ true → IsAscii text
usual_ascii [] is i = omega arith
usual_ascii (x ∷ xs) is zero =
    let all = both_true (is_usual x) (list_all is_usual xs) is in
    ltb-true x 128 (both_true (nat_lt x 128) (is_plain x) all.0).0
usual_ascii (x ∷ xs) is (suc i) = usual_ascii xs (both_true (is_usual x) (list_all is_usual xs) is).1 i

led_some : (lead bytes : List ℕ) (is : Bool) → quoted bytes ≡ in_quotes bytes
    → led lead (if is then Some (values.text bytes) else None) ≡ (if is then lead ++ in_quotes bytes else [])
led_some lead bytes true same = ap (λ (t : List ℕ). lead ++ t) same
led_some lead bytes false same = refl

-- usual bytes are a text, which stands in quotes as it is
pub usual_text : (bytes : List ℕ) → list_all is_usual bytes ≡ true → (lead : List ℕ) → led lead (text_told bytes) ≡ led_plain lead bytes
usual_text bytes are lead =
    ap (λ v. led lead v) (told_text bytes (IsUtf8-from_ascii bytes (usual_ascii bytes are)))
    ∙ led_some lead bytes (nat_lt 0 (length bytes)) (plain_text bytes (usual_plain bytes are))
