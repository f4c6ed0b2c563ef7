-- One byte of a body, and runs of such bytes.
use Rattle.std.proofs.Common.{◌≡◌, ℕ, suc, ◌+◌, ◌-◌, ◌*◌, ◌<◌, ◌≤◌, ◌⊎◌, ⊎_elim, inl, inr, Bool, true, false, ◌||◌, ◌==◌, List, [], ◌∷◌, ◌++◌, length, refl, sym, ap, ◌∙◌, subst, arith, append_assoc, eqb-true, ne_eqb, lt-ltb, Some, None}
use Rattle.std.proofs.lemmas.Bool.{false≢true, and_parts}
use Rattle.std.specs.Char.{digit_value}
use Rattle.std.specs.List.{list_all}
use Rattle.std.specs.Str.Parse.{digits_value_after}
use Rattle.s3_transfer_chunks.specs.Body.{IsExtension, IsGivenExtension}
use Rattle.s3_transfer_chunks.specs.Place.{is_blank, is_hex, is_passed, more_digits, read, read_behind, read_tail, to_digits}
use Rattle.s3_transfer_chunks.specs.Reading.{Reading, after_byte, announced, is_data, is_settled, run, turned}
use Rattle.s3_transfer_chunks.specs.declared.place.Place.{Place}
use Rattle.s3_transfer_chunks.specs.declared.place.Place.TheVariants.{Size, Line, Data}
use Rattle.s3_transfer_chunks.specs.declared.place.Tail.{Tail}
use Rattle.s3_transfer_chunks.specs.declared.place.Tail.TheVariants.{Blanks, Extension, End}
use Rattle.s3_transfer_chunks.specs.declared.place.Step.{Step}
use Rattle.s3_transfer_chunks.specs.declared.place.Step.TheVariants.{Moves, Announces}
use Rattle.s3_transfer_chunks.proofs.RunLemmas.{after_other, run_data}

-- a reading by its parts
abbrev pub reading_at : Place → ℕ → List ℕ → Reading
reading_at place left held = record { place = place; left = left; held = held }

-- a byte that is no data
byte_goes : (place : Place) (left : ℕ) (held : List ℕ) (byte : ℕ) (step : Step) → is_settled place ≡ false → is_data place ≡ false → read place byte ≡ step → after_byte (reading_at place left held) byte ≡ turned (reading_at place left held) step
byte_goes place left held byte step open' other is =
    after_other (reading_at place left held) byte open' other ∙ ap (turned (reading_at place left held)) is

pub moves : (place next : Place) (left : ℕ) (held : List ℕ) (byte : ℕ) → is_settled place ≡ false → is_data place ≡ false → read place byte ≡ Moves next → after_byte (reading_at place left held) byte ≡ reading_at next left held
unfolding turned
moves place next left held byte open' other is = byte_goes place left held byte (Moves next) open' other is

-- ---- digits

read_digit : (count number byte : ℕ) → is_hex byte ≡ true → count < 16 → read (Size (count, number)) byte ≡ Moves (Size (count + 1, number * 16 + digit_value byte))
unfolding read
read_digit count number byte hex room =
    let more : more_digits (count, number) byte ≡ Some (count + 1, number * 16 + digit_value byte) = rw (hex, lt-ltb count 16 room) refl in
    ap (λ d. to_digits d (read_behind (count, number) byte)) more

pub run_digits : (text : List ℕ) (count number left : ℕ) (held : List ℕ) → list_all is_hex text ≡ true → count + length text ≤ 16 → run (reading_at (Size (count, number)) left held) text ≡ reading_at (Size (count + length text, digits_value_after 16 number text)) left held
run_digits [] count number left held all most =
    let a : count ≡ count + 0 = omega arith in
    ap (λ (n : ℕ). reading_at (Size (n, number)) left held) a
run_digits (byte ∷ text) count number left held all most =
    let both = and_parts (is_hex byte) (list_all is_hex text) all in
    let next = number * 16 + digit_value byte in
    let a : count + 1 + length text ≡ count + suc (length text) = omega arith in
    ap (λ (r : Reading). run r text)
    (moves (Size (count, number)) (Size (count + 1, next)) left held byte refl refl (read_digit count number byte both.0 (omega (arith, most))))
    ∙ run_digits text (count + 1) next left held both.1 (omega (arith, most))
    ∙ ap (λ (n : ℕ). reading_at (Size (n, digits_value_after 16 next text)) left held) a

-- the byte behind the digits
pub announces : (count number left : ℕ) (held : List ℕ) (byte : ℕ) (tail : Tail) → 0 < count → is_hex byte ≡ false → read_tail number byte ≡ Announces number tail → after_byte (reading_at (Size (count, number)) left held) byte ≡ announced (reading_at (Size (count, number)) left held) number (Line number tail)
unfolding turned read
announces count number left held byte tail some other is =
    let none : more_digits (count, number) byte ≡ None = rw other refl in
    let apart : (count == 0) ≡ false = ne_eqb count 0 (λ same. omega (arith, same, some)) in
    let behind : read_behind (count, number) byte ≡ read_tail number byte = rw apart refl in
    byte_goes (Size (count, number)) left held byte (Announces number tail) refl refl
    (ap (λ d. to_digits d (read_behind (count, number) byte)) none ∙ behind ∙ is)

-- ---- what stands behind the digits

-- of two tests, one is met
or_parts : (a b : Bool) → (a || b) ≡ true → (a ≡ true) ⊎ (b ≡ true)
or_parts true b is = inl refl
or_parts false b is = inr is

-- a blank is a space or a tab
pub blank_cases : (byte : ℕ) → is_blank byte ≡ true → (byte ≡ 32) ⊎ (byte ≡ 9)
blank_cases byte is =
    ⊎_elim
    (λ (one : (byte == 32) ≡ true). inl (eqb-true byte 32 one))
    (λ (other : (byte == 9) ≡ true). inr (eqb-true byte 9 other))
    (or_parts (byte == 32) (byte == 9) is)

blank_tail : (size byte : ℕ) → is_blank byte ≡ true → read_tail size byte ≡ Announces size Blanks
blank_tail size byte is =
    ⊎_elim
    (λ (one : byte ≡ 32). ap (read_tail size) one)
    (λ (other : byte ≡ 9). ap (read_tail size) other)
    (blank_cases byte is)

blank_other : (byte : ℕ) → is_blank byte ≡ true → is_hex byte ≡ false
blank_other byte is =
    ⊎_elim
    (λ (one : byte ≡ 32). ap is_hex one)
    (λ (other : byte ≡ 9). ap is_hex other)
    (blank_cases byte is)

read_passed : (size byte : ℕ) → is_passed byte ≡ true → read (Line size Extension) byte ≡ Moves (Line size Extension)
unfolding read
read_passed size byte is =
    let apart : (byte == 13) ≡ false = ne_eqb _ _ (λ same. false≢true (sym (ap is_passed same) ∙ is)) in
    rw (apart, is) refl

run_extension : (text rest : List ℕ) (size left : ℕ) (held : List ℕ) → list_all is_passed text ≡ true → run (reading_at (Line size Extension) left held) (text ++ 13 ∷ rest) ≡ run (reading_at (Line size End) left held) rest
unfolding read
run_extension [] rest size left held all =
    ap (λ (r : Reading). run r rest) (moves (Line size Extension) (Line size End) left held 13 refl refl refl)
run_extension (byte ∷ text) rest size left held all =
    let both = and_parts (is_passed byte) (list_all is_passed text) all in
    ap (λ (r : Reading). run r (text ++ 13 ∷ rest))
    (moves (Line size Extension) (Line size Extension) left held byte refl refl (read_passed size byte both.0))
    ∙ run_extension text rest size left held both.1

read_blank : (size byte : ℕ) → is_blank byte ≡ true → read (Line size Blanks) byte ≡ Moves (Line size Blanks)
unfolding read
read_blank size byte is = rw is refl

run_blanks : (blanks text rest : List ℕ) (size left : ℕ) (held : List ℕ) → list_all is_blank blanks ≡ true → list_all is_passed text ≡ true → run (reading_at (Line size Blanks) left held) (blanks ++ 59 ∷ (text ++ 13 ∷ rest)) ≡ run (reading_at (Line size End) left held) rest
unfolding read
run_blanks [] text rest size left held all passed =
    ap (λ (r : Reading). run r (text ++ 13 ∷ rest)) (moves (Line size Blanks) (Line size Extension) left held 59 refl refl refl)
    ∙ run_extension text rest size left held passed
run_blanks (byte ∷ blanks) text rest size left held all passed =
    let both = and_parts (is_blank byte) (list_all is_blank blanks) all in
    ap (λ (r : Reading). run r (blanks ++ 59 ∷ (text ++ 13 ∷ rest)))
    (moves (Line size Blanks) (Line size Blanks) left held byte refl refl (read_blank size byte both.0))
    ∙ run_blanks blanks text rest size left held both.1 passed

-- an extension and the CR behind it, with this behind them: their first byte ends the digits of a size, and the bytes behind
-- it lead to the end of the line
pub record Follows (text rest : List ℕ) : Type 0 where
  pub byte : ℕ
  pub behind : List ℕ
  pub tail : Tail
  pub written : text ≡ byte ∷ behind
  pub other : is_hex byte ≡ false
  pub known : (size : ℕ) → read_tail size byte ≡ Announces size tail
  pub passes : (size left : ℕ) (held : List ℕ) → run (reading_at (Line size tail) left held) behind ≡ run (reading_at (Line size End) left held) rest

given_follows : (blanks text rest : List ℕ) → list_all is_blank blanks ≡ true → list_all is_passed text ≡ true → Follows (blanks ++ 59 ∷ (text ++ 13 ∷ rest)) rest
given_follows [] text rest blank passed = record {
  byte = 59;
  behind = text ++ 13 ∷ rest;
  tail = Extension;
  written = refl;
  other = refl;
  known = λ size. refl;
  passes = λ size left held. run_extension text rest size left held passed;
}
given_follows (byte ∷ blanks) text rest blank passed =
    let both = and_parts (is_blank byte) (list_all is_blank blanks) blank in
    record {
      byte = byte;
      behind = blanks ++ 59 ∷ (text ++ 13 ∷ rest);
      tail = Blanks;
      written = refl;
      other = blank_other byte both.0;
      known = λ size. blank_tail size byte both.0;
      passes = λ size left held. run_blanks blanks text rest size left held both.1 passed;
    }

pub extension_follows : (extension rest : List ℕ) → IsExtension extension → Follows (extension ++ 13 ∷ rest) rest
extension_follows extension rest which =
    ⊎_elim
    (λ (none : extension ≡ []). subst (λ (e : List ℕ). Follows (e ++ 13 ∷ rest) rest) (sym none) bare)
    (λ (given : IsGivenExtension extension).
    subst (λ (e : List ℕ). Follows e rest)
    (sym
    (ap (λ (e : List ℕ). e ++ 13 ∷ rest) given.written
    ∙ append_assoc given.blanks (59 ∷ given.rest) (13 ∷ rest)))
    (given_follows given.blanks given.rest rest given.blank given.passed))
    which
  where
    bare : Follows (13 ∷ rest) rest
    bare = record {
      byte = 13;
      behind = rest;
      tail = End;
      written = refl;
      other = refl;
      known = λ size. refl;
      passes = λ size left held. refl;
    }

-- ---- data

pub run_chunk_data : (bytes : List ℕ) (more left : ℕ) (held : List ℕ) → more ≡ length bytes → 0 < length bytes → run (reading_at (Data more) left held) bytes ≡ reading_at (Data 0) left (held ++ bytes)
run_chunk_data bytes more left held all some =
    let none : more - length bytes ≡ 0 = omega (arith, all) in
    run_data (reading_at (Data more) left held) more bytes refl some (omega (arith, all))
    ∙ ap (λ (n : ℕ). reading_at (Data n) left (held ++ bytes)) none
