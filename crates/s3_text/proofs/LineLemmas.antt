-- The lines of a text, by the place of its first line end.
use Rattle.std.proofs.Common.{◌≡◌, ℕ, ◌+◌, ◌<◌, Bool, true, false, List, [], ◌∷◌, length, take, drop, refl, sym, ◌∙◌, ap, arith, if◌then◌else◌, ◌==◌, Some, None, position}
use Rattle.std.specs.List.{slice_split}
use Rattle.std.proofs.lemmas.List.Splits.{length-slice_split}
use Rattle.std.proofs.lemmas.Bool.Decides.{nat_tests}
use Rattle.s3_text.specs.Lines.{without_empty_end, lines_of}
use Rattle.s3_text.proofs.CutLemmas.{cut_found, cut_nowhere}

-- a part before others stays
without_empty_end-cons : (part : List ℕ) (parts : List (List ℕ)) → 0 < length parts → without_empty_end (part ∷ parts) ≡ part ∷ without_empty_end parts
without_empty_end-cons part [] lt = absurd (omega arith)
without_empty_end-cons part (next ∷ parts) lt = refl

-- a text that is not empty stays as the only part
stays_alone : (part : List ℕ) (b : Bool) → (length part == 0) ≡ b → 0 < length part → (if b then [] else part ∷ []) ≡ part ∷ []
stays_alone part true h lt = absurd (grind (arith, nat_tests))
stays_alone part false h lt = refl

-- a text is cut at its first line end
pub lines_cut : (text : List ℕ) (place : ℕ) → position (λ b. b == 10) text ≡ Some place → lines_of text ≡ take place text ∷ lines_of (drop (place + 1) text)
unfolding lines_of
lines_cut text place h =
    let p = λ (b : ℕ). b == 10 in
    let first = (cut_found p text place (sym h)).parts in
    let some : 0 < length (slice_split p (drop (place + 1) text)) = omega (arith, length-slice_split p (drop (place + 1) text)) in
    ap without_empty_end first ∙ without_empty_end-cons _ _ some

-- a text without a line end is one line
pub lines_whole : (text : List ℕ) → 0 < length text → position (λ b. b == 10) text ≡ None → lines_of text ≡ text ∷ []
unfolding lines_of
lines_whole text lt h =
    let p = λ (b : ℕ). b == 10 in
    ap without_empty_end (cut_nowhere p text (sym h)).parts ∙ stays_alone text (length text == 0) refl lt

pub ruleset lines = (lines_cut, lines_whole)
