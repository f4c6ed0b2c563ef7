-- What stands for a text has no markup and no line's end that is changed, so that it is read as one text.
use Rattle.std.proofs.Common.{◌≡◌, refl, sym, ap, ◌∙◌, ◌<◌, ℕ, Bool, true, false, cond, not, ◌&&◌, ◌||◌, ◌==◌, inl, inr, List, [], ◌∷◌, ◌++◌, codes, Some, None, nat_eq}
use Rattle.std.proofs.Math.Seq.{drop-append_seam}
use Rattle.std.specs.List.{list_all}
use Rattle.std.proofs.lemmas.List.Folds.{list_all-append}
use Rattle.std.proofs.lemmas.Bool.{and_parts, or_parts, not-true, ne_eqb, eqb-false, cases_eq, agree_below, agree_below_at}
use Rattle.s3_xml.specs.Characters.{is_control, is_noncharacter}
use Rattle.s3_xml.specs.Events.{text_in}
use Rattle.s3_xml.specs.Printed.{numbered, escaped_byte, escaped_noncharacter, escaped}
use Rattle.s3_xml.specs.Grammar.{begins_with, cut_at, with_line_feeds, dereferenced, character_data, told_at}
use Rattle.s3_xml.proofs.ReferenceLemmas.{small_control}
use Rattle.s3_xml.proofs.ScanLemmas.{stops, taken_all, list_all-weaker}

-- neither `<` nor `>`, nor a carriage return or a control byte
abbrev pub is_clean : ℕ → Bool
is_clean b = not (b == 60) && (not (b == 62) && (not (b == 13) && not (is_control b)))

clean_number : ℕ → Bool
clean_number b = list_all is_clean (numbered b)

clean_numbers : agree_below clean_number (λ b. true) 32 ≡ true
unfolding clean_number
clean_numbers = refl

number_is_clean : (b : ℕ) → b < 32 → list_all is_clean (numbered b) ≡ true
unfolding clean_number
number_is_clean b small = agree_below_at clean_number (λ n. true) 32 b clean_numbers small

other_is_clean : (b : ℕ) (is : Bool) → (b == 13 || is_control b) ≡ is → (b == 60) ≡ false → (b == 62) ≡ false
    → list_all is_clean (cond is (numbered b) (b ∷ [])) ≡ true
other_is_clean b true is n60 n62 = number_is_clean b (small_control b is)
other_is_clean b false is n60 n62 =
    let p = or_parts (b == 13) (is_control b) is in
    rw (p.1, n60, n62, p.0)

byte_is_clean : (b : ℕ) → list_all is_clean (escaped_byte b) ≡ true
unfolding escaped_byte
byte_is_clean b = elim (cases_eq b 38) [
  | inl e ↦ rw e
  | inr n38 ↦ elim (cases_eq b 60) [
    | inl e ↦ rw e
    | inr n60 ↦ elim (cases_eq b 62) [
      | inl e ↦ rw e
      | inr n62 ↦ elim (cases_eq b 34) [
        | inl e ↦ rw e
        | inr n34 ↦ rw (ne_eqb b 38 n38, ne_eqb b 60 n60, ne_eqb b 62 n62, ne_eqb b 34 n34)
            (other_is_clean b (b == 13 || is_control b) refl (ne_eqb b 60 n60) (ne_eqb b 62 n62))
      ]
    ]
  ]
]

noncharacter_is_clean : (is : Bool) → list_all is_clean (cond is (codes "&#xfffe;") (codes "&#xffff;")) ≡ true
noncharacter_is_clean true = refl
noncharacter_is_clean false = refl

both_clean : (front rest : List ℕ) → list_all is_clean front ≡ true → list_all is_clean rest ≡ true → list_all is_clean (front ++ rest) ≡ true
both_clean front rest f r = rw (list_all-append is_clean front rest, f, r)

three_clean : (is : Bool) (c : ℕ) (one more rest : List ℕ) → list_all is_clean one ≡ true → list_all is_clean more ≡ true → list_all is_clean rest ≡ true
    → list_all is_clean (cond is (escaped_noncharacter c ++ rest) (one ++ more)) ≡ true
three_clean true c one more rest o m r = both_clean (escaped_noncharacter c) rest (noncharacter_is_clean (c == 190)) r
three_clean false c one more rest o m r = both_clean one more o m

pub text_is_clean : (s : List ℕ) → list_all is_clean (escaped s) ≡ true
unfolding escaped
text_is_clean [] = refl
text_is_clean (a ∷ []) = byte_is_clean a
text_is_clean (a ∷ b ∷ []) = both_clean (escaped_byte a) (escaped (b ∷ [])) (byte_is_clean a) (text_is_clean (b ∷ []))
text_is_clean (a ∷ b ∷ c ∷ rest) =
    three_clean (is_noncharacter a b c) c (escaped_byte a) (escaped (b ∷ c ∷ rest)) (escaped rest) (byte_is_clean a) (text_is_clean (b ∷ c ∷ rest)) (text_is_clean rest)

-- ---- a clean text is read as it is

never : (p : Bool) → (p && false) ≡ false
never true = refl
never false = refl

no_mark : (b : ℕ) (bs : List ℕ) → list_all is_clean (b ∷ bs) ≡ true → begins_with (codes "]]>") (b ∷ bs) ≡ false
no_mark b [] clean = never (nat_eq 93 b)
no_mark b (c ∷ []) clean = ap (λ w. nat_eq 93 b && w) (never (nat_eq 93 c)) ∙ never (nat_eq 93 b)
no_mark b (c ∷ d ∷ bs) clean =
    let p = and_parts (is_clean b) (list_all is_clean (c ∷ d ∷ bs)) clean in
    let q = and_parts (is_clean c) (list_all is_clean (d ∷ bs)) p.1 in
    let r = and_parts (is_clean d) (list_all is_clean bs) q.1 in
    let s = and_parts (not (d == 60)) (not (d == 62) && (not (d == 13) && not (is_control d))) r.0 in
    let t = and_parts (not (d == 62)) (not (d == 13) && not (is_control d)) s.1 in
    let other : nat_eq 62 d ≡ false = ne_eqb 62 d (λ e. eqb-false d 62 (not-true (d == 62) t.0) (sym e)) in
    rw other (ap (λ w. nat_eq 93 b && w) (never (nat_eq 93 c)) ∙ never (nat_eq 93 b))

no_section_end : (xs : List ℕ) → list_all is_clean xs ≡ true → cut_at (codes "]]>") xs ≡ None
unfolding cut_at
no_section_end [] clean = refl
no_section_end (b ∷ bs) clean =
    let p = and_parts (is_clean b) (list_all is_clean bs) clean in
    rw (no_mark b bs clean, no_section_end bs p.1)

no_return : (b : ℕ) → is_clean b ≡ true → (b == 13) ≡ false
no_return b clean =
    let s = and_parts (not (b == 60)) (not (b == 62) && (not (b == 13) && not (is_control b))) clean in
    let t = and_parts (not (b == 62)) (not (b == 13) && not (is_control b)) s.1 in
    not-true (b == 13) (and_parts (not (b == 13)) (not (is_control b)) t.1).0

same_lines : (xs : List ℕ) → list_all is_clean xs ≡ true → with_line_feeds xs ≡ xs
unfolding with_line_feeds
same_lines [] clean = refl
same_lines (a ∷ []) clean = rw (no_return a (and_parts (is_clean a) true clean).0)
same_lines (a ∷ b ∷ rest) clean =
    let p = and_parts (is_clean a) (list_all is_clean (b ∷ rest)) clean in
    rw (no_return a p.0) (ap (λ xs. a ∷ xs) (same_lines (b ∷ rest) p.1))

pub no_tag : (b : ℕ) → is_clean b ≡ true → not (b == 60) ≡ true
no_tag b clean = (and_parts (not (b == 60)) (not (b == 62) && (not (b == 13) && not (is_control b))) clean).0

pub data_at : (raw content rest : List ℕ) → list_all is_clean raw ≡ true → stops (λ b. not (b == 60)) rest ≡ true → dereferenced raw ≡ Some content
    → character_data (raw ++ rest) ≡ Some (text_in content, rest)
unfolding character_data
data_at raw content rest clean stop is =
    let all = list_all-weaker is_clean (λ b. not (b == 60)) raw no_tag clean in
    rw (taken_all (λ b. not (b == 60)) raw rest all stop, no_section_end raw clean, same_lines raw clean, is, drop-append_seam raw rest)

-- what doesn't begin with `<` is character data
pub told_data : (b : ℕ) (bs : List ℕ) → (b == 60) ≡ false → told_at (b ∷ bs) ≡ character_data (b ∷ bs)
unfolding told_at
told_data b bs other =
    let no : nat_eq 60 b ≡ false = ne_eqb 60 b (λ e. eqb-false b 60 other (sym e)) in
    rw no
