-- What is printed has only characters that XML has.
use Rattle.std.proofs.Common.{◌≡◌, refl, sym, ap, ◌∙◌, subst, ◌<◌, ◌≤◌, ◌+◌, ◌/◌, ◌%◌, ℕ, Bool, true, false, cond, not, ◌&&◌, ◌||◌, ◌==◌, inl, inr, List, [], ◌∷◌, ◌++◌, codes, IsUtf8, arith}
use Rattle.std.specs.List.{list_any}
use Rattle.std.specs.Char.{encode_utf8, IsScalar}
use Rattle.std.specs.Str.{is_utf8, chars}
use lib.Utf8.{scalar, scalars, encodes}
use Rattle.std.proofs.lemmas.Bool.{and_parts, or_parts, or_from, not-true, ne_eqb, le-ltb, lt-ltb, cases_lt, agree_below, agree_below_at}
use Rattle.std.proofs.lemmas.Str.{IsUtf8-append, IsUtf8-encode, IsUtf8-from_is_utf8, is_utf8-from_IsUtf8, IsCharBoundary-start, encode_ascii}
use Rattle.s3_xml.specs.Characters.{is_control, is_noncharacter, has_noncharacter, is_text}
use Rattle.s3_xml.specs.Events.{Event, begin, text, end}
use Rattle.s3_xml.specs.Printed.{declaration, namespace_text, event_text, markup, escaped_byte, escaped_noncharacter, escaped, document_text}
use Rattle.s3_xml.specs.Laws.{has_texts, DocumentsAreTexts}
use Rattle.s3_xml.proofs.EscapeLemmas.{escaped_cons, no_noncharacter}

-- ---- one text behind another

-- no byte at the front goes on with a character
starts : List ℕ → Bool
starts [] = true
starts (b ∷ bs) = not (b == 190) && not (b == 191)

utf8_starts : (bs : List ℕ) → IsUtf8 bs → starts bs ≡ true
unfolding starts
utf8_starts [] u = refl
utf8_starts (b ∷ bs) u =
    let start = (IsCharBoundary-start (b ∷ bs) u).1 (omega arith) in
    rw (ne_eqb b 190 (λ e. absurd (omega (arith, start))), ne_eqb b 191 (λ e. absurd (omega (arith, start))))

never_there : (a b : ℕ) → (b == 191) ≡ false → (c : ℕ) → is_noncharacter a b c ≡ false
never_there a b other c = rw other (by (a == 239))
  where
    by : (p : Bool) → (p && false && (c == 190 || c == 191)) ≡ false
    by true = refl
    by false = refl

never_last : (a b c : ℕ) → (c == 190) ≡ false → (c == 191) ≡ false → is_noncharacter a b c ≡ false
never_last a b c other last = rw (other, last) (by (a == 239 && b == 191))
  where
    by : (p : Bool) → (p && false) ≡ false
    by true = refl
    by false = refl

seam : (front rest : List ℕ) → has_noncharacter front ≡ false → has_noncharacter rest ≡ false → starts rest ≡ true → has_noncharacter (front ++ rest) ≡ false
unfolding starts
seam [] rest f r start = r
seam (a ∷ []) [] f r start = refl
seam (a ∷ []) (b ∷ []) f r start = refl
seam (a ∷ []) (b ∷ c ∷ rest) f r start =
    let p = and_parts (not (b == 190)) (not (b == 191)) start in
    or_from (is_noncharacter a b c) (has_noncharacter (b ∷ c ∷ rest)) (never_there a b (not-true (b == 191) p.1) c) r
seam (a ∷ b ∷ []) [] f r start = refl
seam (a ∷ b ∷ []) (c ∷ rest) f r start =
    let p = and_parts (not (c == 190)) (not (c == 191)) start in
    or_from (is_noncharacter a b c) (has_noncharacter (b ∷ c ∷ rest)) (never_last a b c (not-true (c == 190) p.0) (not-true (c == 191) p.1)) (seam (b ∷ []) (c ∷ rest) refl r start)
seam (a ∷ b ∷ c ∷ front) rest f r start =
    let p = or_parts (is_noncharacter a b c) (has_noncharacter (b ∷ c ∷ front)) f in
    or_from (is_noncharacter a b c) (has_noncharacter (b ∷ c ∷ (front ++ rest))) p.0 (seam (b ∷ c ∷ front) rest p.1 r start)

no_control : (front rest : List ℕ) → list_any is_control front ≡ false → list_any is_control rest ≡ false → list_any is_control (front ++ rest) ≡ false
no_control [] rest f r = r
no_control (b ∷ bs) rest f r =
    let p = or_parts (is_control b) (list_any is_control bs) f in
    or_from (is_control b) (list_any is_control (bs ++ rest)) p.0 (no_control bs rest p.1 r)

record IsText (bytes : List ℕ) : Type 0 where
  utf8 : IsUtf8 bytes
  characters : list_any is_control bytes ≡ false
  others : has_noncharacter bytes ≡ false

as_text : (bytes : List ℕ) → is_text bytes ≡ true → IsText bytes
unfolding is_text
as_text bytes is =
    let p = and_parts (is_utf8 bytes && not (list_any is_control bytes)) (not (has_noncharacter bytes)) is in
    let q = and_parts (is_utf8 bytes) (not (list_any is_control bytes)) p.0 in
    record {
      utf8 = IsUtf8-from_is_utf8 bytes q.0;
      characters = not-true (list_any is_control bytes) q.1;
      others = not-true (has_noncharacter bytes) p.1;
    }

from_text : (bytes : List ℕ) → IsText bytes → is_text bytes ≡ true
unfolding is_text
from_text bytes is = rw (is_utf8-from_IsUtf8 bytes is.utf8, is.characters, is.others)

-- a text behind a text
joined : (front rest : List ℕ) → IsText front → IsText rest → IsText (front ++ rest)
joined front rest f r = record {
  utf8 = IsUtf8-append front rest f.utf8 r.utf8;
  characters = no_control front rest f.characters r.characters;
  others = seam front rest f.others r.others (utf8_starts rest r.utf8);
}

-- ---- bytes from 128 on

high : (b : ℕ) → 128 ≤ b → is_control b ≡ false
high b h = rw (le-ltb b 32 (omega arith))

escaped_high : (b : ℕ) → 128 ≤ b → escaped_byte b ≡ b ∷ []
unfolding escaped_byte
escaped_high b h =
    rw (
      high b h,
      ne_eqb b 38 (λ e. absurd (omega arith)),
      ne_eqb b 60 (λ e. absurd (omega arith)),
      ne_eqb b 62 (λ e. absurd (omega arith)),
      ne_eqb b 34 (λ e. absurd (omega arith)),
      ne_eqb b 13 (λ e. absurd (omega arith)),
    )

literal_high : (b : ℕ) (bs : List ℕ) → 128 ≤ b → (b == 239) ≡ false → escaped (b ∷ bs) ≡ b ∷ escaped bs
literal_high b bs h other = escaped_cons b bs (no_noncharacter b bs other) ∙ ap (λ front. front ++ escaped bs) (escaped_high b h)

-- ---- what stands for a character

-- what stands for these bytes, in front of anything
record StandIn (bytes : List ℕ) : Type 0 where
  piece : List ℕ
  is_text : IsText piece
  stands : (rest : List ℕ) → escaped (bytes ++ rest) ≡ piece ++ escaped rest

ascii_texts : agree_below (λ c. is_text (escaped_byte c)) (λ c. true) 128 ≡ true
unfolding is_text is_utf8 chars encode_utf8 escaped_byte
ascii_texts = refl

ascii_stands : (c : ℕ) → c < 128 → StandIn (c ∷ [])
ascii_stands c small = record {
  piece = escaped_byte c;
  is_text = as_text (escaped_byte c) (agree_below_at (λ b. is_text (escaped_byte b)) (λ b. true) 128 c ascii_texts small);
  stands = λ rest. escaped_cons c rest (no_noncharacter c rest (ne_eqb c 239 (λ e. absurd (omega arith))));
}

two_stand : (a b : ℕ) → 192 ≤ a → a < 224 → 128 ≤ b → b < 192 → IsUtf8 (a ∷ b ∷ []) → StandIn (a ∷ b ∷ [])
two_stand a b la ha lb hb u = record {
  piece = a ∷ b ∷ [];
  is_text = record { utf8 = u; characters = rw (high a (omega arith), high b lb); others = refl };
  stands = λ rest.
      literal_high a (b ∷ rest) (omega arith) (ne_eqb a 239 (λ e. absurd (omega arith)))
      ∙ ap (λ xs. a ∷ xs) (literal_high b rest lb (ne_eqb b 239 (λ e. absurd (omega arith))));
}

noncharacter_text : (is : Bool) → is_text (cond is (codes "&#xfffe;") (codes "&#xffff;")) ≡ true
unfolding is_text is_utf8 chars encode_utf8
noncharacter_text true = refl
noncharacter_text false = refl

gone : (a b c : ℕ) (rest : List ℕ) → is_noncharacter a b c ≡ true → escaped (a ∷ b ∷ c ∷ rest) ≡ escaped_noncharacter c ++ escaped rest
unfolding escaped
gone a b c rest is = rw is

three_stand : (a b c : ℕ) (is : Bool) → is_noncharacter a b c ≡ is → 224 ≤ a → 128 ≤ b → b < 192 → 128 ≤ c → c < 192 → IsUtf8 (a ∷ b ∷ c ∷ []) → StandIn (a ∷ b ∷ c ∷ [])
three_stand a b c true is la lb hb lc hc u = record {
  piece = escaped_noncharacter c;
  is_text = as_text (escaped_noncharacter c) (noncharacter_text (c == 190));
  stands = λ rest. gone a b c rest is;
}
three_stand a b c false is la lb hb lc hc u = record {
  piece = a ∷ b ∷ c ∷ [];
  is_text = record { utf8 = u; characters = rw (high a (omega arith), high b lb, high c lc); others = rw is };
  stands = λ rest.
      escaped_cons a (b ∷ c ∷ rest) is ∙ ap (λ front. front ++ escaped (b ∷ c ∷ rest)) (escaped_high a (omega arith))
      ∙ ap (λ xs. a ∷ xs) (literal_high b (c ∷ rest) lb (ne_eqb b 239 (λ e. absurd (omega arith)))
      ∙ ap (λ xs. b ∷ xs) (literal_high c rest lc (ne_eqb c 239 (λ e. absurd (omega arith)))));
}

four_stand : (a b c d : ℕ) → 240 ≤ a → 128 ≤ b → b < 192 → 128 ≤ c → c < 192 → 128 ≤ d → d < 192 → IsUtf8 (a ∷ b ∷ c ∷ d ∷ []) → StandIn (a ∷ b ∷ c ∷ d ∷ [])
four_stand a b c d la lb hb lc hc ld hd u =
    let na : (a == 239) ≡ false = ne_eqb a 239 (λ e. absurd (omega arith)) in
    let nb : (b == 239) ≡ false = ne_eqb b 239 (λ e. absurd (omega arith)) in
    let nc : (c == 239) ≡ false = ne_eqb c 239 (λ e. absurd (omega arith)) in
    let nd : (d == 239) ≡ false = ne_eqb d 239 (λ e. absurd (omega arith)) in
    record {
      piece = a ∷ b ∷ c ∷ d ∷ [];
      is_text = record { utf8 = u; characters = rw (high a (omega arith), high b lb, high c lc, high d ld); others = rw (na, nb) };
      stands = λ rest.
          literal_high a (b ∷ c ∷ d ∷ rest) (omega arith) na ∙ ap (λ xs. a ∷ xs) (literal_high b (c ∷ d ∷ rest) lb nb
          ∙ ap (λ xs. b ∷ xs) (literal_high c (d ∷ rest) lc nc ∙ ap (λ xs. c ∷ xs) (literal_high d rest ld nd)));
    }

-- the bytes of a character
next : ℕ → ℕ
next bits = 128 + bits % 64

encode_two : (c : ℕ) → 128 ≤ c → c < 2048 → encode_utf8 c ≡ (192 + c / 64) ∷ next c ∷ []
unfolding encode_utf8 next
encode_two c low top = rw (le-ltb c 128 low, lt-ltb c 2048 top)

encode_three : (c : ℕ) → 2048 ≤ c → c < 65_536 → encode_utf8 c ≡ (224 + c / 4096) ∷ next (c / 64) ∷ next c ∷ []
unfolding encode_utf8 next
encode_three c low top = rw (le-ltb c 128 (omega arith), le-ltb c 2048 low, lt-ltb c 65_536 top)

encode_four : (c : ℕ) → 65_536 ≤ c → encode_utf8 c ≡ (240 + c / 262_144) ∷ next (c / 4096) ∷ next (c / 64) ∷ next c ∷ []
unfolding encode_utf8 next
encode_four c low = rw (le-ltb c 128 (omega arith), le-ltb c 2048 (omega arith), le-ltb c 65_536 low)

next_low : (bits : ℕ) → 128 ≤ next bits
unfolding next
next_low bits = omega arith

next_top : (bits : ℕ) → next bits < 192
unfolding next
next_top bits = omega arith

character_stands : (c : ℕ) → IsScalar c → StandIn (encode_utf8 c)
character_stands c is = elim (cases_lt c 128) [
  | inl small ↦ subst StandIn (sym (encode_ascii c small)) (ascii_stands c small)
  | inr low ↦ elim (cases_lt c 2048) [
    | inl top ↦ (let e = encode_two c low top in
        subst StandIn (sym e) (two_stand (192 + c / 64) (next c) (omega arith) (omega arith) (next_low c) (next_top c) (subst IsUtf8 e (IsUtf8-encode c is))))
    | inr more ↦ elim (cases_lt c 65_536) [
      | inl top ↦ (let e = encode_three c more top in
          subst StandIn (sym e) (three_stand (224 + c / 4096) (next (c / 64)) (next c) (is_noncharacter (224 + c / 4096) (next (c / 64)) (next c)) refl
          (omega arith) (next_low (c / 64)) (next_top (c / 64)) (next_low c) (next_top c) (subst IsUtf8 e (IsUtf8-encode c is))))
      | inr most ↦ (let e = encode_four c most in
          subst StandIn (sym e) (four_stand (240 + c / 262_144) (next (c / 4096)) (next (c / 64)) (next c) (omega arith) (next_low (c / 4096)) (next_top (c / 4096))
          (next_low (c / 64)) (next_top (c / 64)) (next_low c) (next_top c) (subst IsUtf8 e (IsUtf8-encode c is))))
    ]
  ]
]

-- ---- what stands for a text

empty_text : IsText []
unfolding is_text is_utf8 chars
empty_text = as_text [] refl

characters_text : (cs : List ℕ) → scalars cs ≡ true → IsText (escaped (encodes cs))
unfolding escaped
characters_text [] are = empty_text
characters_text (c ∷ cs) are =
    let p = and_parts (scalar c) (scalars cs) are in
    let first = character_stands c p.0 in
    subst IsText (sym (first.stands (encodes cs))) (joined first.piece (escaped (encodes cs)) first.is_text (characters_text cs p.1))

escaped_text : (content : List ℕ) → IsUtf8 content → IsText (escaped content)
escaped_text content u = subst (λ bytes. IsText (escaped bytes)) u.1.1 (characters_text u.0 u.1.0)

-- ---- the text of a document

literal : (bytes : List ℕ) → is_text bytes ≡ true → IsText bytes
literal bytes is = as_text bytes is

begin_text : (name : List ℕ) → IsText name → IsText (codes "<" ++ name ++ codes ">")
unfolding is_text is_utf8 chars encode_utf8
begin_text name is = joined (codes "<" ++ name) (codes ">") (joined (codes "<") name (literal (codes "<") refl) is) (literal (codes ">") refl)

end_text : (name : List ℕ) → IsText name → IsText (codes "</" ++ name ++ codes ">")
unfolding is_text is_utf8 chars encode_utf8
end_text name is = joined (codes "</" ++ name) (codes ">") (joined (codes "</") name (literal (codes "</") refl) is) (literal (codes ">") refl)

events_text : (events : List Event) → has_texts events ≡ true → IsText (markup events)
events_text [] are = empty_text
events_text (begin name ∷ events) are =
    let p = and_parts (is_text name) (has_texts events) are in
    joined (event_text (begin name)) (markup events) (begin_text name (as_text name p.0)) (events_text events p.1)
events_text (text content ∷ events) are =
    let p = and_parts (is_utf8 content) (has_texts events) are in
    joined (escaped content) (markup events) (escaped_text content (IsUtf8-from_is_utf8 content p.0)) (events_text events p.1)
events_text (end name ∷ events) are =
    let p = and_parts (is_text name) (has_texts events) are in
    joined (event_text (end name)) (markup events) (end_text name (as_text name p.0)) (events_text events p.1)

declaration_text : IsText declaration
unfolding is_text is_utf8 chars encode_utf8
declaration_text = literal declaration refl

attribute_text : (namespace : List ℕ) → IsText namespace → IsText (namespace_text namespace)
unfolding is_text is_utf8 chars encode_utf8
attribute_text [] is = empty_text
attribute_text (b ∷ bs) is =
    joined (codes " xmlns=\"" ++ (b ∷ bs)) (codes "\"") (joined (codes " xmlns=\"") (b ∷ bs) (literal (codes " xmlns=\"") refl) is) (literal (codes "\"") refl)

-- the marks round the name of the root and its attribute
root_text : (root namespace : List ℕ) → IsText root → IsText namespace → IsText (declaration ++ codes "<" ++ root ++ namespace_text namespace ++ codes ">")
unfolding is_text is_utf8 chars encode_utf8
root_text root namespace r n =
    joined (declaration ++ codes "<" ++ root ++ namespace_text namespace) (codes ">")
    (joined (declaration ++ codes "<" ++ root) (namespace_text namespace)
    (joined (declaration ++ codes "<") root (joined declaration (codes "<") declaration_text (literal (codes "<") refl)) r) (attribute_text namespace n))
    (literal (codes ">") refl)

pub documents_are_texts : DocumentsAreTexts
unfolding document_text
documents_are_texts root namespace inner r n are =
    let front = root_text root namespace (as_text root r) (as_text namespace n) in
    from_text (document_text root namespace inner)
    (joined (declaration ++ codes "<" ++ root ++ namespace_text namespace ++ codes ">" ++ markup inner) (event_text (end root))
    (joined (declaration ++ codes "<" ++ root ++ namespace_text namespace ++ codes ">") (markup inner) front (events_text inner are))
    (end_text root (as_text root r)))
