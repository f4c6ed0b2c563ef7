-- Texts that stand in XML as they are.
use Rattle.std.proofs.Common.{◌≡◌, refl, sym, ap, ◌∙◌, ◌==◌, ◌||◌, Bool, true, false, if◌then◌else◌, ℕ, List, [], ◌∷◌, ◌++◌, append-nil, IsTrue, arith, codes}
use Rattle.std.specs.Char.{is_ascii_digit}
use Rattle.std.specs.List.{list_all}
use Rattle.std.proofs.lemmas.Bool.{and_parts}
use Rattle.std.proofs.lemmas.Bool.Decides.{nat_tests}
use Rattle.s3_names.specs.Tags.{is_tag_character}
use Rattle.s3_calendar.specs.Moment.{is_stamp}
use Rattle.s3_xml.specs.Characters.{is_control}
use Rattle.s3_xml.specs.Printed.{escaped, escaped_byte, byte_digits}
use Rattle.s3_documents.specs.Xml.{is_plain}
use Rattle.s3_documents.specs.Timestamp.{spelled_out}
use Rattle.s3_documents.proofs.PlainLemmas.{spelled_has}

-- ---- tests

digit_plain : (b : ℕ) → is_ascii_digit b ≡ true → is_plain b ≡ true
digit_plain b h = grind (arith, nat_tests)

tag_character_plain : (b : ℕ) → is_tag_character b ≡ true → is_plain b ≡ true
tag_character_plain b h = grind (arith, nat_tests)

pub all_plain : (test : ℕ → Bool) → ((b : ℕ) → test b ≡ true → is_plain b ≡ true) → (bs : List ℕ) → list_all test bs ≡ true → list_all is_plain bs ≡ true
all_plain test plain [] h = refl
all_plain test plain (b ∷ bs) h =
    let parts = and_parts (test b) (list_all test bs) h in
    rw (plain b parts.0) (all_plain test plain bs parts.1)

pub joined_plain : (xs ys : List ℕ) → list_all is_plain xs ≡ true → list_all is_plain ys ≡ true → list_all is_plain (xs ++ ys) ≡ true
joined_plain [] ys h k = k
joined_plain (x ∷ xs) ys h k =
    let parts = and_parts (is_plain x) (list_all is_plain xs) h in
    rw (parts.0) (joined_plain xs ys parts.1 k)

pub tag_is_plain : (tag : List ℕ) → list_all is_tag_character tag ≡ true → list_all is_plain tag ≡ true
tag_is_plain tag h = all_plain is_tag_character tag_character_plain tag h

pub spelled_is_plain : (t : List ℕ) → IsTrue (is_stamp t) → list_all is_plain (spelled_out t) ≡ true
spelled_is_plain t valid =
    spelled_has (λ s. list_all is_plain s ≡ true) joined_plain (all_plain is_ascii_digit digit_plain) refl refl refl refl t valid

-- ---- texts

-- a byte that no character of three bytes begins with is escaped alone
escaped_front : (a : ℕ) (rest : List ℕ) → (a == 239) ≡ false → escaped (a ∷ rest) ≡ escaped_byte a ++ escaped rest
unfolding escaped
escaped_front a [] other = sym (append-nil (escaped_byte a))
escaped_front a (b ∷ []) other = refl
escaped_front a (b ∷ c ∷ rest) other = rw other refl

plain_parts : (b : ℕ) → is_plain b ≡ true → ((b == 239) ≡ false) × (escaped_byte b ≡ b ∷ [])
unfolding escaped_byte
plain_parts b h =
    let amp : (b == 38) ≡ false = grind (arith, nat_tests) in
    let less : (b == 60) ≡ false = grind (arith, nat_tests) in
    let more : (b == 62) ≡ false = grind (arith, nat_tests) in
    let quote : (b == 34) ≡ false = grind (arith, nat_tests) in
    let first : (b == 239) ≡ false = grind (arith, nat_tests) in
    (first, rw (amp, less, more, quote) (other b h))
  where
    other : (b : ℕ) → is_plain b ≡ true → (if b == 13 || is_control b then codes "&#x" ++ byte_digits b ++ codes ";" else b ∷ []) ≡ b ∷ []
    other b h =
        let none : (b == 13 || is_control b) ≡ false = grind (arith, nat_tests) in
        rw none refl

pub plain_escaped : (s rest : List ℕ) → list_all is_plain s ≡ true → escaped (s ++ rest) ≡ s ++ escaped rest
plain_escaped [] rest h = refl
plain_escaped (b ∷ s) rest h =
    let parts = and_parts (is_plain b) (list_all is_plain s) h in
    let byte = plain_parts b parts.0 in
    escaped_front b (s ++ rest) byte.0
    ∙ ap (λ x. x ++ escaped (s ++ rest)) byte.1
    ∙ ap (λ x. b ∷ x) (plain_escaped s rest parts.1)

quote_escaped : (rest : List ℕ) → escaped (34 ∷ rest) ≡ codes "&quot;" ++ escaped rest
unfolding escaped_byte
quote_escaped rest = escaped_front 34 rest refl

-- a tag in its quotes
pub quoted_escaped : (tag : List ℕ) → list_all is_plain tag ≡ true → escaped (34 ∷ (tag ++ 34 ∷ [])) ≡ codes "&quot;" ++ (tag ++ codes "&quot;")
unfolding escaped
quoted_escaped tag h =
    quote_escaped (tag ++ 34 ∷ [])
    ∙ ap (λ x. codes "&quot;" ++ x) (plain_escaped tag (34 ∷ []) h ∙ ap (λ x. tag ++ x) (quote_escaped []))

pub plain_alone : (s : List ℕ) → list_all is_plain s ≡ true → escaped s ≡ s
unfolding escaped
plain_alone s h = ap escaped (sym (append-nil s)) ∙ plain_escaped s [] h ∙ append-nil s
