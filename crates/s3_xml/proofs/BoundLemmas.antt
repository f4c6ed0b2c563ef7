-- How many bytes of text printing takes.
use Rattle.std.proofs.Common.{◌≡◌, ap, ◌∙◌, ◌≤◌, ◌+◌, ◌*◌, ◌/◌, ◌%◌, nat_lt, ℕ, List, [], ◌∷◌, ◌++◌, Bool, true, false, cond, ◌||◌, ◌==◌, length, codes, length-append, arith}
use Rattle.std.specs.Char.{digit_char}
use Rattle.std.proofs.lemmas.List.Concat.{flat_map-append}
use Rattle.s3_xml.specs.Characters.{is_control, is_noncharacter}
use Rattle.s3_xml.specs.Events.{Event, begin, end, text_in, element}
use Rattle.s3_xml.specs.Printed.{escaped_byte, escaped_noncharacter, escaped, namespace_text, event_text, markup}
use Rattle.s3_xml.specs.Writer.{opening, Bounds}
use Rattle.s3_xml.proofs.WriterLemmas.{markup_text}

byte_bound : (b : ℕ) → length (escaped_byte b) ≤ 6
unfolding escaped_byte
byte_bound b = one (b == 38) (b == 60) (b == 62) (b == 34) (b == 13 || is_control b) (nat_lt b 16) (digit_char b) (digit_char (b / 16)) (digit_char (b % 16)) b
  where
    digits : (short : Bool) (low high last : ℕ) → List ℕ
    digits short low high last = cond short (low ∷ []) (high ∷ last ∷ [])

    one : (p q r s t short : Bool) (low high last x : ℕ)
        → length (cond p (38 ∷ 97 ∷ 109 ∷ 112 ∷ 59 ∷ []) (cond q (38 ∷ 108 ∷ 116 ∷ 59 ∷ []) (cond r (38 ∷ 103 ∷ 116 ∷ 59 ∷ [])
        (cond s (38 ∷ 113 ∷ 117 ∷ 111 ∷ 116 ∷ 59 ∷ []) (cond t (((38 ∷ 35 ∷ 120 ∷ []) ++ cond short (low ∷ []) (high ∷ last ∷ [])) ++ 59 ∷ []) (x ∷ [])))))) ≤ 6
    one true q r s t short low high last x = omega arith
    one false true r s t short low high last x = omega arith
    one false false true s t short low high last x = omega arith
    one false false false true t short low high last x = omega arith
    one false false false false true true low high last x = omega arith
    one false false false false true false low high last x = omega arith
    one false false false false false short low high last x = omega arith

noncharacter_bound : (c : ℕ) → length (escaped_noncharacter c) ≤ 18
noncharacter_bound c = one (c == 190)
  where
    one : (is : Bool) → length (cond is (codes "&#xfffe;") (codes "&#xffff;")) ≤ 18
    one true = omega arith
    one false = omega arith

three_bound : (is : Bool) (c : ℕ) (one more rest : List ℕ) (size : ℕ) → length one ≤ 6 → length rest ≤ 6 * size → length more ≤ 6 * (size + 2)
    → length (cond is (escaped_noncharacter c ++ rest) (one ++ more)) ≤ 6 * (size + 3)
three_bound true c one more rest size o r m = omega (arith, noncharacter_bound c, length-append (escaped_noncharacter c) rest)
three_bound false c one more rest size o r m = omega (arith, length-append one more)

text_bound : (content : List ℕ) → length (escaped content) ≤ 6 * length content
unfolding escaped
text_bound [] = omega arith
text_bound (a ∷ []) = omega (arith, byte_bound a)
text_bound (a ∷ b ∷ []) = omega (arith, byte_bound a, text_bound (b ∷ []), length-append (escaped_byte a) (escaped (b ∷ [])))
text_bound (a ∷ b ∷ c ∷ rest) =
    let more = text_bound (b ∷ c ∷ rest) in
    omega (arith, three_bound (is_noncharacter a b c) c (escaped_byte a) (escaped (b ∷ c ∷ rest)) (escaped rest) (length rest) (byte_bound a) (text_bound rest) (omega (arith, more)))

several : (front rest : List Event) → length (markup (front ++ rest)) ≡ length (markup front) + length (markup rest)
several front rest = ap length (flat_map-append event_text front rest) ∙ length-append (markup front) (markup rest)

begins : (name : List ℕ) → length (markup (begin name ∷ [])) ≡ length name + 2
begins name = omega (arith, length-append name (codes ">"), length-append (name ++ codes ">") [])

ends : (name : List ℕ) → length (markup (end name ∷ [])) ≡ length name + 3
ends name = omega (arith, length-append name (codes ">"), length-append (name ++ codes ">") [])

elements : (name : List ℕ) (inner : List Event) → length (markup (element name inner)) ≡ 2 * length name + 5 + length (markup inner)
elements name inner =
    omega (arith, several (begin name ∷ []) (inner ++ end name ∷ []), several inner (end name ∷ []), begins name, ends name)

attribute_bound : (namespace : List ℕ) → length (namespace_text namespace) ≤ 9 + length namespace
attribute_bound [] = omega arith
attribute_bound (b ∷ bs) = omega (arith, length-append bs (codes "\""))

opening_bound : (root namespace : List ℕ) → length (opening root namespace) ≤ 50 + length root + length namespace
unfolding opening
opening_bound root namespace =
    omega (arith, length-append root (namespace_text namespace), length-append (root ++ namespace_text namespace) (codes ">"), attribute_bound namespace)

pub bounds : Bounds
bounds = record {
  openings = opening_bound;
  texts = text_bound;
  several = several;
  begins = begins;
  ends = ends;
  contents = λ content. ap length (markup_text content);
  leaves = λ name content. omega (arith, elements name (text_in content), ap length (markup_text content));
  elements = elements;
}
