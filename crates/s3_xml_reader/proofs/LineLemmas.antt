-- Line ends as line feeds, byte after byte.
use Rattle.std.proofs.Common.{◌≡◌, ℕ, ◌==◌, Bool, true, false, ◌&&◌, ◌||◌, List, [], ◌∷◌, refl, sym, ap, ◌∙◌, map, Option, Some, None, option_map, if◌then◌else◌, codes, ⊎_elim}
use Rattle.std.proofs.lemmas.Bool.{eqb-true, and_parts, or_parts, or_cases, or_left, or_right, false≢true}
use Rattle.std.specs.List.{list_all, list_any, onto_first}
use Rattle.s3_text.specs.Characters.{ampersand}
use Rattle.s3_text.specs.Cut.{parts_at}
use Rattle.s3_xml.specs.Characters.{is_white}
use Rattle.s3_xml.specs.Grammar.{Front, cut_at, with_line_feeds}

-- what stands for a byte
abbrev pub as_feed : ℕ → ℕ
as_feed b = if b == 13 then 10 else b

-- the same text, behind a carriage return or not
abbrev pub feeds_behind : Bool → List ℕ → List ℕ
feeds_behind behind [] = []
feeds_behind behind (b ∷ bytes) =
    if behind && b == 10 then feeds_behind false bytes else as_feed b ∷ feeds_behind (b == 13) bytes

and_false : (so : Bool) (first second : List ℕ) → (if so && false then first else second) ≡ second
and_false true first second = refl
and_false false first second = refl

not_both : (so other : Bool) (first second : List ℕ) → (so && other) ≡ false → (if so && other then first else second) ≡ second
not_both so other first second is = ap (λ both. if both then first else second) is

-- a byte that isn't dropped
pub kept_first : (behind : Bool) (b : ℕ) (bytes : List ℕ) → (behind && b == 10) ≡ false → feeds_behind behind (b ∷ bytes) ≡ as_feed b ∷ feeds_behind (b == 13) bytes
kept_first behind b bytes is = not_both behind (b == 10) _ _ is

-- the carriage return in front of a line feed goes, or the line feed behind it
either_goes : (b : ℕ) (rest : List ℕ) → (b == 10) ≡ true → feeds_behind false (b ∷ rest) ≡ 10 ∷ feeds_behind true (b ∷ rest)
either_goes b rest feed =
    ap (λ b. as_feed b ∷ feeds_behind (b == 13) rest) (eqb-true b 10 feed)
    ∙ sym (ap (λ so. 10 ∷ (if so then feeds_behind false rest else as_feed b ∷ feeds_behind (b == 13) rest)) feed)

goes_on : (a b : ℕ) (rest : List ℕ) (both : Bool) → (a == 13 && b == 10) ≡ both → with_line_feeds (b ∷ rest) ≡ feeds_behind false (b ∷ rest)
    → (if both then with_line_feeds (b ∷ rest) else as_feed a ∷ with_line_feeds (b ∷ rest)) ≡ as_feed a ∷ feeds_behind (a == 13) (b ∷ rest)
goes_on a b rest true is more =
    let both = and_parts (a == 13) (b == 10) is in
    more ∙ either_goes b rest both.1 ∙ ap (λ so. (if so then 10 else a) ∷ feeds_behind so (b ∷ rest)) (sym both.0)
goes_on a b rest false is more =
    ap (λ more. as_feed a ∷ more) (more ∙ sym (kept_first (a == 13) b rest is))

pub feeds_are : (raw : List ℕ) → with_line_feeds raw ≡ feeds_behind false raw
unfolding with_line_feeds
feeds_are [] = refl
feeds_are (a ∷ []) = refl
feeds_are (a ∷ b ∷ rest) = goes_on a b rest (a == 13 && b == 10) refl (feeds_are (b ∷ rest))

-- a byte that is dropped
pub dropped_first : (behind : Bool) (b : ℕ) (bytes : List ℕ) → (behind && b == 10) ≡ true → feeds_behind behind (b ∷ bytes) ≡ feeds_behind false bytes
dropped_first behind b bytes is = ap (λ both. if both then feeds_behind false bytes else as_feed b ∷ feeds_behind (b == 13) bytes) is

-- what stands for a byte is another mark only where the byte is it
same_mark : (mark b : ℕ) (return : Bool) → (b == 13) ≡ return → (10 == mark) ≡ false → (13 == mark) ≡ false → ((if return then 10 else b) == mark) ≡ (b == mark)
same_mark mark b true is feed other = feed ∙ sym other ∙ ap (λ b. b == mark) (sym (eqb-true b 13 is))
same_mark mark b false is feed other = refl

same_front : (mark b : ℕ) (return : Bool) → (b == 13) ≡ return → (mark == 10) ≡ false → (mark == 13) ≡ false → (mark == (if return then 10 else b)) ≡ (mark == b)
same_front mark b true is feed other = feed ∙ sym other ∙ ap (λ b. mark == b) (sym (eqb-true b 13 is))
same_front mark b false is feed other = refl

-- the parts of a text, the first of them behind a carriage return or not
abbrev parts_behind : Bool → List (List ℕ) → List (List ℕ)
parts_behind behind [] = [] ∷ []
parts_behind behind (part ∷ parts) = feeds_behind behind part ∷ map (feeds_behind false) parts

each_part : (raw : List ℕ) → parts_behind false (parts_at ampersand raw) ≡ map (feeds_behind false) (parts_at ampersand raw)
each_part [] = refl
each_part (b ∷ bytes) = first_or_not (b == ampersand) (parts_at ampersand bytes)
  where
    onto : (parts : List (List ℕ)) → parts_behind false (onto_first b parts) ≡ map (feeds_behind false) (onto_first b parts)
    onto [] = refl
    onto (part ∷ parts) = refl

    first_or_not : (mark : Bool) (parts : List (List ℕ)) → parts_behind false (if mark then [] ∷ parts else onto_first b parts) ≡ map (feeds_behind false) (if mark then [] ∷ parts else onto_first b parts)
    first_or_not true parts = refl
    first_or_not false parts = onto parts

dropped_onto : (parts : List (List ℕ)) → parts_behind true (onto_first 10 parts) ≡ parts_behind false parts
dropped_onto [] = refl
dropped_onto (part ∷ parts) = refl

kept_onto : (behind : Bool) (b : ℕ) (parts : List (List ℕ)) → (behind && b == 10) ≡ false → parts_behind behind (onto_first b parts) ≡ onto_first (as_feed b) (parts_behind (b == 13) parts)
kept_onto behind b [] is = ap (λ part. part ∷ []) (kept_first behind b [] is)
kept_onto behind b (part ∷ parts) is = ap (λ first. first ∷ map (feeds_behind false) parts) (kept_first behind b part is)

module _ (behind : Bool) (b : ℕ) (bytes : List ℕ) (more : (behind : Bool) → parts_at ampersand (feeds_behind behind bytes) ≡ parts_behind behind (parts_at ampersand bytes)) where
  parts_dropped : (b == 10) ≡ true → behind ≡ true → parts_behind false (parts_at ampersand bytes) ≡ parts_behind behind (parts_at ampersand (b ∷ bytes))
  parts_dropped feed after =
      sym (ap (λ after. parts_behind after (parts_at ampersand (b ∷ bytes))) after
      ∙ ap (λ b. parts_behind true (parts_at ampersand (b ∷ bytes))) (eqb-true b 10 feed)
      ∙ dropped_onto (parts_at ampersand bytes))

  parts_kept : (mark : Bool) → (b == ampersand) ≡ mark → (behind && b == 10) ≡ false
      → (if mark then [] ∷ parts_at ampersand (feeds_behind (b == 13) bytes) else onto_first (as_feed b) (parts_at ampersand (feeds_behind (b == 13) bytes)))
      ≡ parts_behind behind (if mark then [] ∷ parts_at ampersand bytes else onto_first b (parts_at ampersand bytes))
  parts_kept true is kept =
      ap (λ b. [] ∷ parts_at ampersand (feeds_behind (b == 13) bytes)) (eqb-true b ampersand is)
      ∙ ap (λ parts. [] ∷ parts) (more false ∙ each_part bytes)
  parts_kept false is kept =
      ap (onto_first (as_feed b)) (more (b == 13)) ∙ sym (kept_onto behind b (parts_at ampersand bytes) kept)

  parts_first : (both : Bool) → (behind && b == 10) ≡ both → parts_at ampersand (feeds_behind behind (b ∷ bytes)) ≡ parts_behind behind (parts_at ampersand (b ∷ bytes))
  parts_first true is =
      ap (parts_at ampersand) (dropped_first behind b bytes is) ∙ more false
      ∙ parts_dropped (and_parts behind (b == 10) is).1 (and_parts behind (b == 10) is).0
  parts_first false is =
      ap (parts_at ampersand) (kept_first behind b bytes is)
      ∙ ap (λ mark. if mark then [] ∷ parts_at ampersand (feeds_behind (b == 13) bytes) else onto_first (as_feed b) (parts_at ampersand (feeds_behind (b == 13) bytes))) (same_mark ampersand b (b == 13) refl refl refl)
      ∙ parts_kept (b == ampersand) refl is

parts_feeds : (behind : Bool) (raw : List ℕ) → parts_at ampersand (feeds_behind behind raw) ≡ parts_behind behind (parts_at ampersand raw)
parts_feeds behind [] = refl
parts_feeds behind (b ∷ bytes) =
    parts_first behind b bytes (λ behind. parts_feeds behind bytes) (behind && b == 10) refl

-- the parts of a text whose line ends are line feeds
pub parts-line_feeds : (raw : List ℕ) → parts_at ampersand (with_line_feeds raw) ≡ map with_line_feeds (parts_at ampersand raw)
parts-line_feeds raw =
    ap (parts_at ampersand) (feeds_are raw) ∙ parts_feeds false raw ∙ each_part raw ∙ sym (map_same (parts_at ampersand raw))
  where
    map_same : (parts : List (List ℕ)) → map with_line_feeds parts ≡ map (feeds_behind false) parts
    map_same [] = refl
    map_same (part ∷ parts) = ap (λ first. first ∷ map with_line_feeds parts) (feeds_are part) ∙ ap (λ parts. feeds_behind false part ∷ parts) (map_same parts)

-- a cut at a semicolon, of a text behind a carriage return or not
abbrev cut_behind : Bool → Front → Front
cut_behind behind cut = (feeds_behind behind cut.0, feeds_behind false cut.1)

abbrev semicolon_first : ℕ → List ℕ → Option Front → Option Front
semicolon_first b bytes later = if (59 == b) && true then Some ([], bytes) else option_map (λ cut. (b ∷ cut.0, cut.1)) later

cut_first : (b : ℕ) (bytes : List ℕ) → cut_at (codes ";") (b ∷ bytes) ≡ semicolon_first b bytes (cut_at (codes ";") bytes)
unfolding cut_at
cut_first b bytes = refl

cut_dropped : (cut : Option Front) → option_map (cut_behind false) cut ≡ option_map (cut_behind true) (option_map (λ cut. (10 ∷ cut.0, cut.1)) cut)
cut_dropped None = refl
cut_dropped (Some cut) = refl

cut_kept : (behind : Bool) (b : ℕ) (cut : Option Front) → (behind && b == 10) ≡ false
    → option_map (λ cut. (as_feed b ∷ cut.0, cut.1)) (option_map (cut_behind (b == 13)) cut) ≡ option_map (cut_behind behind) (option_map (λ cut. (b ∷ cut.0, cut.1)) cut)
cut_kept behind b None is = refl
cut_kept behind b (Some cut) is = ap (λ front. Some (front, feeds_behind false cut.1)) (sym (kept_first behind b cut.0 is))

module _ (behind : Bool) (b : ℕ) (bytes : List ℕ) (more : (behind : Bool) → cut_at (codes ";") (feeds_behind behind bytes) ≡ option_map (cut_behind behind) (cut_at (codes ";") bytes)) where
  semicolon_dropped : (b == 10) ≡ true → behind ≡ true → option_map (cut_behind false) (cut_at (codes ";") bytes) ≡ option_map (cut_behind behind) (cut_at (codes ";") (b ∷ bytes))
  semicolon_dropped feed after =
      sym (ap (λ after. option_map (cut_behind after) (cut_at (codes ";") (b ∷ bytes))) after
      ∙ ap (λ b. option_map (cut_behind true) (cut_at (codes ";") (b ∷ bytes))) (eqb-true b 10 feed)
      ∙ ap (option_map (cut_behind true)) (cut_first 10 bytes)
      ∙ sym (cut_dropped (cut_at (codes ";") bytes)))

  semicolon_kept : (mark : Bool) → (59 == b) ≡ mark → (behind && b == 10) ≡ false
      → (if mark && true then Some ([], feeds_behind (b == 13) bytes) else option_map (λ cut. (as_feed b ∷ cut.0, cut.1)) (cut_at (codes ";") (feeds_behind (b == 13) bytes)))
      ≡ option_map (cut_behind behind) (if mark && true then Some ([], bytes) else option_map (λ cut. (b ∷ cut.0, cut.1)) (cut_at (codes ";") bytes))
  semicolon_kept true is kept = ap (λ b. Some ([], feeds_behind (b == 13) bytes)) (sym (eqb-true 59 b is))
  semicolon_kept false is kept =
      ap (option_map (λ cut. (as_feed b ∷ cut.0, cut.1))) (more (b == 13)) ∙ cut_kept behind b (cut_at (codes ";") bytes) kept

  semicolon_step : (both : Bool) → (behind && b == 10) ≡ both → cut_at (codes ";") (feeds_behind behind (b ∷ bytes)) ≡ option_map (cut_behind behind) (cut_at (codes ";") (b ∷ bytes))
  semicolon_step true is =
      ap (cut_at (codes ";")) (dropped_first behind b bytes is) ∙ more false
      ∙ semicolon_dropped (and_parts behind (b == 10) is).1 (and_parts behind (b == 10) is).0
  semicolon_step false is =
      ap (cut_at (codes ";")) (kept_first behind b bytes is)
      ∙ cut_first (as_feed b) (feeds_behind (b == 13) bytes)
      ∙ ap (λ mark. if mark && true then Some ([], feeds_behind (b == 13) bytes) else option_map (λ cut. (as_feed b ∷ cut.0, cut.1)) (cut_at (codes ";") (feeds_behind (b == 13) bytes))) (same_front 59 b (b == 13) refl refl refl)
      ∙ semicolon_kept (59 == b) refl is
      ∙ ap (option_map (cut_behind behind)) (sym (cut_first b bytes))

cut_feeds : (behind : Bool) (raw : List ℕ) → cut_at (codes ";") (feeds_behind behind raw) ≡ option_map (cut_behind behind) (cut_at (codes ";") raw)
unfolding cut_at
cut_feeds behind [] = refl
cut_feeds behind (b ∷ bytes) =
    semicolon_step behind b bytes (λ behind. cut_feeds behind bytes) (behind && b == 10) refl

pub cut-line_feeds : (raw : List ℕ) → cut_at (codes ";") (with_line_feeds raw) ≡ option_map (λ cut. (with_line_feeds cut.0, with_line_feeds cut.1)) (cut_at (codes ";") raw)
cut-line_feeds raw = ap (cut_at (codes ";")) (feeds_are raw) ∙ cut_feeds false raw ∙ same_cut (cut_at (codes ";") raw)
  where
    same_cut : (cut : Option Front) → option_map (cut_behind false) cut ≡ option_map (λ cut. (with_line_feeds cut.0, with_line_feeds cut.1)) cut
    same_cut None = refl
    same_cut (Some cut) = ap (λ front. Some (front, feeds_behind false cut.1)) (sym (feeds_are cut.0)) ∙ ap (λ rest. Some (with_line_feeds cut.0, rest)) (sym (feeds_are cut.1))

-- a line end is white space in every spelling
white_feed : (b : ℕ) (return : Bool) → (b == 13) ≡ return → is_white (if return then 10 else b) ≡ is_white b
white_feed b true is = ap is_white (sym (eqb-true b 13 is))
white_feed b false is = refl

white_step : (behind : Bool) (b : ℕ) (bytes : List ℕ) (both : Bool) → (behind && b == 10) ≡ both → ((behind : Bool) → list_all is_white (feeds_behind behind bytes) ≡ list_all is_white bytes)
    → list_all is_white (feeds_behind behind (b ∷ bytes)) ≡ list_all is_white (b ∷ bytes)
white_step behind b bytes true is more =
    ap (list_all is_white) (dropped_first behind b bytes is) ∙ more false
    ∙ sym (ap (λ b. list_all is_white (b ∷ bytes)) (eqb-true b 10 (and_parts behind (b == 10) is).1))
white_step behind b bytes false is more =
    ap (list_all is_white) (kept_first behind b bytes is)
    ∙ ap (λ white. white && list_all is_white (feeds_behind (b == 13) bytes)) (white_feed b (b == 13) refl)
    ∙ ap (λ all. is_white b && all) (more (b == 13))

white_feeds : (behind : Bool) (raw : List ℕ) → list_all is_white (feeds_behind behind raw) ≡ list_all is_white raw
white_feeds behind [] = refl
white_feeds behind (b ∷ bytes) =
    white_step behind b bytes (behind && b == 10) refl (λ behind. white_feeds behind bytes)

pub white-line_feeds : (raw : List ℕ) → list_all is_white (with_line_feeds raw) ≡ list_all is_white raw
white-line_feeds raw = ap (list_all is_white) (feeds_are raw) ∙ white_feeds false raw

abbrev pub is_return : ℕ → Bool
is_return b = b == 13

plain_step : (b : ℕ) (bytes : List ℕ) → is_return b ≡ false → feeds_behind false bytes ≡ bytes → feeds_behind false (b ∷ bytes) ≡ b ∷ bytes
plain_step b bytes is more =
    ap (λ return. (if return then 10 else b) ∷ feeds_behind return bytes) is ∙ ap (λ bytes. b ∷ bytes) more

plain_feeds : (raw : List ℕ) → list_any is_return raw ≡ false → feeds_behind false raw ≡ raw
plain_feeds [] plain = refl
plain_feeds (b ∷ bytes) plain =
    plain_step b bytes (or_parts (is_return b) (list_any is_return bytes) plain).0 (plain_feeds bytes (or_parts (is_return b) (list_any is_return bytes) plain).1)

-- a text without a carriage return stays
pub plain-line_feeds : (raw : List ℕ) → list_any is_return raw ≡ false → with_line_feeds raw ≡ raw
plain-line_feeds raw plain = feeds_are raw ∙ plain_feeds raw plain

abbrev pub is_break : ℕ → Bool
is_break b = b == 10 || b == 13

-- and one with a carriage return keeps a line end
pub break_of_return : (raw : List ℕ) → list_any is_return raw ≡ true → list_any is_break raw ≡ true
break_of_return [] some = absurd (false≢true some)
break_of_return (b ∷ bytes) some =
    ⊎_elim
    (λ here. or_left _ _ (or_right (b == 10) _ here))
    (λ later. or_right (is_break b) _ (break_of_return bytes later))
    (or_cases (is_return b) (list_any is_return bytes) some)

break_step : (behind : Bool) (b : ℕ) (bytes : List ℕ) (both return : Bool) → (behind && b == 10) ≡ both → is_return b ≡ return → (return || list_any is_return bytes) ≡ true
    → ((behind : Bool) → list_any is_return bytes ≡ true → list_any is_break (feeds_behind behind bytes) ≡ true) → list_any is_break (feeds_behind behind (b ∷ bytes)) ≡ true
break_step behind b bytes true true is return some more =
    absurd (false≢true (sym (ap is_return (eqb-true b 10 (and_parts behind (b == 10) is).1)) ∙ return))
break_step behind b bytes true false is return some more =
    ap (list_any is_break) (dropped_first behind b bytes is) ∙ more false some
break_step behind b bytes false true is return some more =
    ap (list_any is_break) (kept_first behind b bytes is)
    ∙ ap (λ return. is_break (if return then 10 else b) || list_any is_break (feeds_behind (b == 13) bytes)) return
break_step behind b bytes false false is return some more =
    ap (list_any is_break) (kept_first behind b bytes is)
    ∙ or_right (is_break (as_feed b)) _ (more (b == 13) some)

break_feeds : (behind : Bool) (raw : List ℕ) → list_any is_return raw ≡ true → list_any is_break (feeds_behind behind raw) ≡ true
break_feeds behind [] some = absurd (false≢true some)
break_feeds behind (b ∷ bytes) some =
    break_step behind b bytes (behind && b == 10) (is_return b) refl refl some (λ behind. break_feeds behind bytes)

pub break-line_feeds : (raw : List ℕ) → list_any is_return raw ≡ true → list_any is_break (with_line_feeds raw) ≡ true
break-line_feeds raw some = ap (list_any is_break) (feeds_are raw) ∙ break_feeds false raw some
