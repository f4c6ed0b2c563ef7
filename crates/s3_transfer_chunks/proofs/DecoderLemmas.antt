-- How a decoder stands after one more piece.
use Rattle.std.proofs.Common.{◌≡◌, ℕ, ◌+◌, ◌⊎◌, ◌^◌, ◌-◌, Bool, true, false, List, ◌++◌, length, take, refl, sym, ap, ◌∙◌, Some, Option, min, arith, subst, if◌then◌else◌}
use Rattle.std.proofs.lemmas.Bool.{false≢true}
use Rattle.std.proofs.lemmas.Option.{none-some}
use Rattle.s3_terms.specs.declared.code.Code.{Code}
use Rattle.s3_terms.specs.declared.code.Code.TheVariants.{InternalError}
use Rattle.s3_transfer_chunks.specs.Reading.{Reading, code_at, count_taken, is_settled, run, started, taken_in}
use Rattle.s3_transfer_chunks.specs.Decoder.{counted}
use Rattle.s3_transfer_chunks.specs.declared.place.Place.{Place}
use Rattle.s3_transfer_chunks.specs.declared.place.Place.TheVariants.{Size, Line, Data, DataEnd, Last, LastEnd, Over, Refused}
use Rattle.s3_transfer_chunks.proofs.RunLemmas.{Settled, count-append, count_settled, run-append, run_settled, whole_count, whole_piece}

-- a reading of any bytes goes on to the piece behind them
pub fed : (limit : ℕ) (bytes piece : List ℕ) (n : ℕ) (old new : Reading) → old ≡ run (started limit) bytes → new ≡ run old (take n piece) → (n ≡ length piece) ⊎ Settled new → new ≡ run (started limit) (bytes ++ piece)
fed limit bytes piece n old new was is reached =
    is
    ∙ whole_piece old piece n (subst (λ (q : Reading). (n ≡ length piece) ⊎ Settled q) is reached)
    ∙ ap (λ (r : Reading). run r piece) was
    ∙ sym (run-append (started limit) bytes piece)

-- and counts what it took of that
pub fed_count : (limit : ℕ) (bytes piece : List ℕ) (n : ℕ) (old new : Reading) → old ≡ run (started limit) bytes → new ≡ run old (take n piece) → (n ≡ length piece) ⊎ Settled new → count_taken old (take n piece) ≡ n → taken_in limit (bytes ++ piece) ≡ taken_in limit bytes + n
fed_count limit bytes piece n old new was is reached reads =
    let whole = whole_count old piece n (subst (λ (q : Reading). (n ≡ length piece) ⊎ Settled q) is reached) in
    let behind : count_taken (run (started limit) bytes) piece ≡ n = ap (λ (r : Reading). count_taken r piece) (sym was) ∙ sym whole ∙ reads in
    let sum = count-append (started limit) bytes piece in
    omega (arith, behind, sum)

-- both, where the count before was right
pub fed_on : (limit : ℕ) (bytes piece : List ℕ) (n before after : ℕ) (old new : Reading) → old ≡ run (started limit) bytes → before ≡ counted (taken_in limit bytes) → new ≡ run old (take n piece) → (n ≡ length piece) ⊎ Settled new → count_taken old (take n piece) ≡ n → after ≡ min (before + n) (2 ^ 64 - 1) → (new ≡ run (started limit) (bytes ++ piece)) × (after ≡ counted (taken_in limit (bytes ++ piece)))
fed_on limit bytes piece n before after old new was counts is reached reads sum =
    let more = fed_count limit bytes piece n old new was is reached reads in
    (fed limit bytes piece n old new was is reached, omega (arith, counts, sum, more))

-- what is settled stands after anything more
pub still : (limit : ℕ) (bytes piece : List ℕ) (r : Reading) → r ≡ run (started limit) bytes → Settled r → r ≡ run (started limit) (bytes ++ piece)
still limit bytes piece r is settled' =
    sym (run_settled r piece settled')
    ∙ ap (λ (q : Reading). run q piece) is
    ∙ sym (run-append (started limit) bytes piece)

pub still_counts : (limit : ℕ) (bytes piece : List ℕ) (r : Reading) → r ≡ run (started limit) bytes → Settled r → taken_in limit (bytes ++ piece) ≡ taken_in limit bytes
still_counts limit bytes piece r is settled' =
    let none : count_taken (run (started limit) bytes) piece ≡ 0 = ap (λ (q : Reading). count_taken q piece) (sym is) ∙ count_settled r piece settled' in
    let sum = count-append (started limit) bytes piece in
    omega (arith, none, sum)

-- what a decoder answers
abbrev refusal_at : Bool → Place → Option Code
refusal_at lost place = if lost then Some InternalError else code_at place

refused_settled : (place : Place) (code : Code) → code_at place ≡ Some code → is_settled place ≡ true
refused_settled (Refused fault) code is = refl
refused_settled Over code is = refl
refused_settled (Size digits) code is = absurd (none-some code is)
refused_settled (Line size tail) code is = absurd (none-some code is)
refused_settled (Data left) code is = absurd (none-some code is)
refused_settled DataEnd code is = absurd (none-some code is)
refused_settled Last code is = absurd (none-some code is)
refused_settled LastEnd code is = absurd (none-some code is)

pub failed_settled : (lost : Bool) (place : Place) (code : Code) → lost ≡ false → refusal_at lost place ≡ Some code → is_settled place ≡ true
failed_settled true place code kept is = absurd (false≢true (sym kept))
failed_settled false place code kept is = refused_settled place code is
