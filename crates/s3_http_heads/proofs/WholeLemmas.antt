-- No header line of a head has a carriage return in it.
use Rattle.std.proofs.Common.{◌≡◌, inl, inr, ℕ, Bool, true, false, not, ◌&&◌, ◌==◌, List, [], ◌∷◌, map, reverse, refl, ap, ◌∙◌}
use Rattle.std.specs.Prelude.{All}
use Rattle.std.specs.List.{list_all}
use Rattle.std.proofs.lemmas.Bool.{cases_Bool, eqb-true}
use Rattle.std.proofs.lemmas.List.{reverse-append}
use Rattle.std.proofs.lemmas.List.Elements.{All-head, All-tail}
use Rattle.std.proofs.lemmas.List.Folds.{list_all-append}
use Rattle.std.proofs.lemmas.List.Sums.{list_all-from_AllPass}
use Rattle.httparse.specs.Grammar.{is_token_byte, is_value_byte, is_ows, Field, IsField, skip_ows, trim_ows}
use Rattle.httparse.specs.Spans.{name_and_value}
use Rattle.s3_text.proofs.ListLemmas.{all_weaker}
use Rattle.s3_http_heads.specs.Head.{HeadParts, is_unbroken, is_whole_line, LinesAreWhole}

-- a test that a carriage return fails holds of no carriage return
other_byte : (p : ℕ → Bool) → p 13 ≡ false → (b : ℕ) → p b ≡ true → not (b == 13) ≡ true
other_byte p fails b passes = elim (cases_Bool (b == 13)) [
  | inl same ↦
      let is : b ≡ 13 = eqb-true b 13 same in
      let both = ap p is in
      absurd (cc)
  | inr other ↦ rw other refl
]

token_fails : is_token_byte 13 ≡ false
unfolding is_token_byte
token_fails = refl

name_unbroken : (name : List ℕ) → list_all is_token_byte name ≡ true → is_unbroken name ≡ true
name_unbroken name all = all_weaker is_token_byte (λ b. not (b == 13)) (other_byte is_token_byte token_fails) name all

value_unbroken : (raw : List ℕ) → list_all is_value_byte raw ≡ true → is_unbroken raw ≡ true
value_unbroken raw all = all_weaker is_value_byte (λ b. not (b == 13)) (other_byte is_value_byte refl) raw all

-- what passes of a text passes of what is left when the ends are cut
module _ (p : ℕ → Bool) where
  both : (a b : Bool) → (a && b) ≡ true → (a ≡ true) × (b ≡ true)
  both true b is = (refl, is)
  both false b is = absurd (cc)

  skipped : (bytes : List ℕ) → list_all p bytes ≡ true → list_all p (skip_ows bytes) ≡ true
  skipped [] all = refl
  skipped (b ∷ bytes) all = elim (cases_Bool (is_ows b)) [
    | inl white ↦ rw white (skipped bytes (both (p b) (list_all p bytes) all).1)
    | inr other ↦ rw other all
  ]

  in_front : (a b : Bool) → (a && (b && true)) ≡ (b && a)
  in_front true true = refl
  in_front true false = refl
  in_front false true = refl
  in_front false false = refl

  turned : (bytes : List ℕ) → list_all p (reverse bytes) ≡ list_all p bytes
  turned [] = refl
  turned (b ∷ bytes) =
      ap (list_all p) (reverse-append (b ∷ []) bytes)
      ∙ list_all-append p (reverse bytes) (b ∷ [])
      ∙ ap (λ c. c && (p b && true)) (turned bytes)
      ∙ in_front (list_all p bytes) (p b)

  trimmed : (bytes : List ℕ) → list_all p bytes ≡ true → list_all p (trim_ows bytes) ≡ true
  unfolding trim_ows
  trimmed bytes all =
      turned (skip_ows (reverse (skip_ows bytes)))
      ∙ skipped (reverse (skip_ows bytes)) (turned (skip_ows bytes) ∙ skipped bytes all)

field_whole : (field : Field) → IsField field → is_whole_line (name_and_value field) ≡ true
field_whole field valid =
    let name = name_unbroken field.name (list_all-from_AllPass is_token_byte field.name valid.name.1) in
    let raw = value_unbroken field.raw (list_all-from_AllPass is_value_byte field.raw valid.raw) in
    rw (name, trimmed (λ b. not (b == 13)) field.raw raw) refl

fields_whole : (fields : List Field) → All IsField fields → list_all is_whole_line (map name_and_value fields) ≡ true
fields_whole [] valid = refl
fields_whole (field ∷ fields) valid =
    rw (field_whole field (All-head IsField field fields valid)) (fields_whole fields (All-tail IsField field fields valid))

pub lines_are_whole : LinesAreWhole
lines_are_whole text parts (h, is, said) =
    ap (λ (p : HeadParts). list_all is_whole_line p.headers) said ∙ fields_whole h.fields is.0.0.fields
