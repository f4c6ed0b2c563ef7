-- What stands for the beginning of a text, and what for the rest.
use Rattle.std.proofs.Common.{◌≡◌, refl, sym, ap, ◌∙◌, ◌≤◌, ◌<◌, ◌+◌, ℕ, List, [], ◌∷◌, ◌++◌, Bool, true, false, cond, not, ◌||◌, ◌==◌, length, take, drop, get_or, append-nil, append_assoc, length-append, arith, one-add}
use Rattle.std.proofs.lemmas.Bool.{or_parts, eqb-true}
use Rattle.std.specs.List.{position_or_len}
use Rattle.s3_xml.specs.Characters.{is_control, begins_noncharacter}
use Rattle.s3_xml.specs.Printed.{escaped_byte, escaped_noncharacter, escaped}
use Rattle.s3_xml.specs.Writer.{Written, Advances, is_special}

-- a byte, where no noncharacter begins with it
pub escaped_cons : (b : ℕ) (bs : List ℕ) → begins_noncharacter (b ∷ bs) ≡ false → escaped (b ∷ bs) ≡ escaped_byte b ++ escaped bs
unfolding escaped
escaped_cons b [] plain = sym (append-nil (escaped_byte b))
escaped_cons b (c ∷ []) plain = refl
escaped_cons b (c ∷ d ∷ bs) plain = rw plain

pub escaped_at_byte : (text : List ℕ) → begins_noncharacter text ≡ false → 0 < length text
    → escaped text ≡ escaped_byte (get_or text 0 0) ++ escaped (drop 1 text)
escaped_at_byte [] plain some = absurd (omega arith)
escaped_at_byte (b ∷ bs) plain some = escaped_cons b bs plain

pub escaped_at_noncharacter : (text : List ℕ) → begins_noncharacter text ≡ true
    → escaped text ≡ escaped_noncharacter (get_or text 2 0) ++ escaped (drop 3 text)
unfolding escaped
escaped_at_noncharacter [] is = cc
escaped_at_noncharacter (a ∷ []) is = cc
escaped_at_noncharacter (a ∷ b ∷ []) is = cc
escaped_at_noncharacter (a ∷ b ∷ c ∷ rest) is = rw is

pub noncharacter_length : (text : List ℕ) → begins_noncharacter text ≡ true → 3 ≤ length text
noncharacter_length [] is = cc
noncharacter_length (a ∷ []) is = cc
noncharacter_length (a ∷ b ∷ []) is = cc
noncharacter_length (a ∷ b ∷ c ∷ rest) is = omega arith

-- bytes at the front that stand for themselves
pub no_noncharacter : (b : ℕ) (bs : List ℕ) → (b == 239) ≡ false → begins_noncharacter (b ∷ bs) ≡ false
no_noncharacter b [] other = refl
no_noncharacter b (c ∷ []) other = refl
no_noncharacter b (c ∷ d ∷ bs) other = rw other

none : (p q r s t u v : Bool) → (p || q || r || s || t || u || v) ≡ false
    → (p ≡ false) × (q ≡ false) × (r ≡ false) × (s ≡ false) × (t ≡ false) × (u ≡ false) × (v ≡ false)
none p q r s t u v is =
    let a = or_parts (p || q || r || s || t || u) v is in
    let b = or_parts (p || q || r || s || t) u a.0 in
    let c = or_parts (p || q || r || s) t b.0 in
    let d = or_parts (p || q || r) s c.0 in
    let e = or_parts (p || q) r d.0 in
    let f = or_parts p q e.0 in
    (f.0, f.1, e.1, d.1, c.1, b.1, a.1)

pub literal_byte : (b : ℕ) (bs : List ℕ) → is_special b ≡ false → escaped (b ∷ bs) ≡ b ∷ escaped bs
unfolding escaped_byte
literal_byte b bs plain =
    let p = none (b == 38) (b == 60) (b == 62) (b == 34) (b == 13) (b == 239) (is_control b) plain in
    let is : escaped_byte b ≡ b ∷ [] = rw (p.6, p.0, p.1, p.2, p.3, p.4) in
    escaped_cons b bs (no_noncharacter b bs p.5) ∙ ap (λ front. front ++ escaped bs) is

front_of : (text : List ℕ) (count : ℕ) → List ℕ
front_of text count = take count text ++ escaped (drop count text)

literal_more : (b : ℕ) (bs : List ℕ) (special : Bool) → is_special b ≡ special → escaped bs ≡ front_of bs (position_or_len is_special bs)
    → escaped (b ∷ bs) ≡ front_of (b ∷ bs) (cond (not special) (1 + position_or_len is_special bs) 0)
unfolding front_of
literal_more b bs true is more = refl
literal_more b bs false is more = rw one-add (literal_byte b bs is ∙ ap (λ xs. b ∷ xs) more)

front_is : (text : List ℕ) → escaped text ≡ front_of text (position_or_len is_special text)
unfolding front_of escaped
front_is [] = refl
front_is (b ∷ bs) = literal_more b bs (is_special b) refl (front_is bs)

pub literal_front : (text : List ℕ) (count : ℕ) → count ≡ position_or_len is_special text → escaped text ≡ take count text ++ escaped (drop count text)
unfolding front_of
literal_front text count is = rw is (front_is text)

-- a writer that wrote what stands for some bytes at the front
pub advances : (text front : List ℕ) (old new : Written) (count : ℕ) → 0 < count → count ≤ length text
    → escaped text ≡ front ++ escaped (drop count text) → new.bytes ≡ old.bytes ++ front → old.spare ≤ new.spare + length front
    → Advances text old new count
advances text front old new count some within splits told room = record {
  some = some;
  within = within;
  told = rw (told, splits) (append_assoc old.bytes front (escaped (drop count text)));
  room = rw splits (omega (arith, room, length-append front (escaped (drop count text))));
}

-- a writer that lacked room for it
pub lacks : (text front rest : List ℕ) (spare : ℕ) → escaped text ≡ front ++ rest → spare < length front → spare < length (escaped text)
lacks text front rest spare splits few = rw splits (omega (arith, few, length-append front rest))

-- a writer that came to the end of a text
pub at_end : (new rest all : List ℕ) → true ≡ (length rest == 0) → new ++ escaped rest ≡ all → new ≡ all
unfolding escaped
at_end new [] all is told = sym (append-nil new) ∙ told
at_end new (b ∷ bs) all is told = let none : length (b ∷ bs) ≡ 0 = eqb-true (length (b ∷ bs)) 0 (sym is) in absurd (omega arith)
