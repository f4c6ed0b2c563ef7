-- How a reader stands after one more piece.
use Rattle.std.proofs.Common.{◌≡◌, ℕ, Bool, true, false, List, ◌++◌, length, take, drop, refl, sym, ap, ◌∙◌, subst, ◌⊎◌, ⊎_elim, Some, None, Option, option_map, arith, if◌then◌else◌}
use Rattle.std.proofs.lemmas.Bool.{false≢true}
use Rattle.s3_terms.specs.declared.code.Code.{Code}
use Rattle.s3_terms.specs.declared.code.Code.TheVariants.{InternalError}
use Rattle.std.proofs.lemmas.List.{append-nil, take_all, take-append-drop}
use Rattle.std.proofs.lemmas.Option.{none-some}
use Rattle.s3_aws_chunked.specs.Verdict.{Terms}
use Rattle.s3_aws_chunked.specs.Sinks.{got}
use Rattle.s3_aws_chunked.specs.Decoder.{Progress, Shows, Keeps, is_settled, is_closed, code_of, fault_at, run, started}
use Rattle.s3_aws_chunked.specs.declared.place.Place.{Place}
use Rattle.s3_aws_chunked.specs.declared.decoder.Decoder.{Decoder}
use Rattle.s3_aws_chunked.specs.declared.phase.Phase.{Phase}
use Rattle.s3_aws_chunked.specs.declared.phase.Phase.TheVariants.{Size, Line, Data, Ending, Over, Refused}
use Rattle.s3_aws_chunked.proofs.RunLemmas.{run-append, run_closed, afresh, held_behind}
use Rattle.s3_aws_chunked.proofs.SinkLemmas.{got_by}
use Rattle.s3_aws_chunked.proofs.PlaceLemmas.{kept_run, kept_started, closed_settled, over_from}

-- what was taken of a piece is all of it that counts
whole_piece : (p : Progress) (piece : List ℕ) (n : ℕ) (new : Decoder) → Shows new (run p (take n piece)) → (n ≡ length piece) ⊎ (is_closed new.place ≡ true) → run p (take n piece) ≡ run p piece
whole_piece p piece n new shown reached =
    ⊎_elim
    (λ (all : n ≡ length piece). ap (run p) (ap (λ k. take k piece) all ∙ take_all (length piece) piece (omega arith)))
    (λ (shut : is_closed new.place ≡ true).
    sym
    (ap (run p) (sym (take-append-drop n piece))
    ∙ run-append p (take n piece) (drop n piece)
    ∙ run_closed (run p (take n piece)) (drop n piece) (ap is_closed (sym shown.place) ∙ shut)))
    reached

-- the reader goes on from any bytes to the piece behind them
pub fed_shows : (terms : Terms) (bytes piece : List ℕ) (n : ℕ) (new : Decoder) → Shows new (run (run (started terms) bytes) (take n piece)) → (n ≡ length piece) ⊎ (is_closed new.place ≡ true) → Shows new (run (started terms) (bytes ++ piece))
fed_shows terms bytes piece n new shown reached =
    subst (Shows new)
    (whole_piece (run (started terms) bytes) piece n new shown reached ∙ sym (run-append (started terms) bytes piece))
    shown

-- a reader shows the same, whatever was given
pub shows_afresh : (decoder : Decoder) (p : Progress) → Shows decoder p → Shows decoder (afresh p)
shows_afresh decoder p shown = record { place = shown.place; hash = shown.hash }

pub fed_held : (terms : Terms) (bytes piece held old new_sink : List ℕ) (n : ℕ) (new : Decoder) → held ≡ (run (started terms) bytes).held → Shows new (run (afresh (run (started terms) bytes)) (take n piece)) → Keeps old new_sink (afresh (run (started terms) bytes)) (run (afresh (run (started terms) bytes)) (take n piece)) → (n ≡ length piece) ⊎ (is_closed new.place ≡ true) → held ++ got old new_sink ≡ (run (started terms) (bytes ++ piece)).held
fed_held terms bytes piece held old new_sink n new had shown keeps reached =
    let p = run (started terms) bytes in
    let gave : got old new_sink ≡ (run (afresh p) (take n piece)).held =
    got_by old new_sink (run (afresh p) (take n piece)).held (keeps old (sym (append-nil old))) in
    ap (λ x. held ++ x) (gave ∙ ap (λ (q : Progress). q.held) (whole_piece (afresh p) piece n new shown reached))
    ∙ ap (λ x. x ++ (run (afresh p) piece).held) had
    ∙ sym (held_behind p piece)
    ∙ ap (λ (q : Progress). q.held) (sym (run-append (started terms) bytes piece))

-- where it took no more, it is done
pub fed_done : (terms : Terms) (bytes piece : List ℕ) (n : ℕ) (new : Decoder) → Shows new (run (run (started terms) bytes) (take n piece)) → is_closed new.place ≡ true → fault_at new.place.phase ≡ None → new.place.phase ≡ Over
fed_done terms bytes piece n new shown shut none =
    over_from new.place.phase
    (ap (λ (q : Place). is_settled q.phase) shown.place
    ∙ closed_settled _ (kept_run _ (take n piece) (kept_run (started terms) bytes (kept_started terms))) (ap is_closed (sym shown.place) ∙ shut))
    none

-- what a reader answers, as its place has it
abbrev refusal_at : Bool → Phase → Option Code
refusal_at lost phase = if lost then Some InternalError else option_map code_of (fault_at phase)

no_fault_at : (phase : Phase) → option_map code_of (fault_at phase) ≡ None → fault_at phase ≡ None
no_fault_at (Refused fault) none = absurd (none-some (code_of fault) (sym none))
no_fault_at Over none = refl
no_fault_at (Size digits) none = refl
no_fault_at (Line place size) none = refl
no_fault_at (Data left last) none = refl
no_fault_at (Ending last) none = refl

pub no_fault : (lost : Bool) (phase : Phase) → lost ≡ false → refusal_at lost phase ≡ None → fault_at phase ≡ None
no_fault true phase kept none = absurd (false≢true (sym kept))
no_fault false phase kept none = no_fault_at phase none

refused_closed : (phase : Phase) (code : Code) → option_map code_of (fault_at phase) ≡ Some code → is_settled phase ≡ true
refused_closed (Refused fault) code is = refl
refused_closed Over code is = refl
refused_closed (Size digits) code is = absurd (none-some code is)
refused_closed (Line place size) code is = absurd (none-some code is)
refused_closed (Data left last) code is = absurd (none-some code is)
refused_closed (Ending last) code is = absurd (none-some code is)

pub failed_closed : (lost : Bool) (place : Place) (code : Code) → lost ≡ false → refusal_at lost place.phase ≡ Some code → is_closed place ≡ true
failed_closed true place code kept is = absurd (false≢true (sym kept))
failed_closed false place code kept is = rw (refused_closed place.phase code is) refl

-- what has refused stands after anything more
pub still_shows : (terms : Terms) (bytes piece : List ℕ) (decoder : Decoder) → Shows decoder (run (started terms) bytes) → is_closed decoder.place ≡ true → run (started terms) (bytes ++ piece) ≡ run (started terms) bytes
still_shows terms bytes piece decoder shown shut =
    run-append (started terms) bytes piece
    ∙ run_closed (run (started terms) bytes) piece (ap is_closed (sym shown.place) ∙ shut)

-- a reader that has no code to answer has no fault
unfailed_at : (phase : Phase) → ((code : Code) → option_map code_of (fault_at phase) ≡ Some code → ⊥) → fault_at phase ≡ None
unfailed_at (Refused fault) none = absurd (none (code_of fault) refl)
unfailed_at Over none = refl
unfailed_at (Size digits) none = refl
unfailed_at (Line place size) none = refl
unfailed_at (Data left last) none = refl
unfailed_at (Ending last) none = refl

pub unfailed : (lost : Bool) (phase : Phase) → lost ≡ false → ((code : Code) → refusal_at lost phase ≡ Some code → ⊥) → fault_at phase ≡ None
unfailed true phase kept none = absurd (false≢true (sym kept))
unfailed false phase kept none = unfailed_at phase none
