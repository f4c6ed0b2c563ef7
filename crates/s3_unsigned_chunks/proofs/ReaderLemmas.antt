-- How a reader stands after one more piece.
use Rattle.std.proofs.Common.{◌≡◌, ℕ, Bool, true, false, List, ◌++◌, length, take, drop, refl, sym, ap, ◌∙◌, ◌<◌, ◌⊎◌, ⊎_elim, inr, Some, None, Option, arith, if◌then◌else◌}
use Rattle.std.proofs.lemmas.Bool.{false≢true}
use Rattle.std.proofs.lemmas.List.{take_all, take-append-drop}
use Rattle.std.proofs.lemmas.Option.{none-some}
use Rattle.s3_terms.specs.declared.code.Code.{Code}
use Rattle.s3_terms.specs.declared.code.Code.TheVariants.{InternalError}
use Rattle.s3_unsigned_chunks.specs.Reading.{Terms, Reading, code_at, is_settled, is_closed, run, started}
use Rattle.s3_unsigned_chunks.specs.declared.place.Place.{Place}
use Rattle.s3_unsigned_chunks.specs.declared.place.Place.TheVariants.{Size, SizeEnd, Data, DataEnd, Name, Value, Gap, ValueEnd, Last, LastEnd, Over, Refused}
use Rattle.s3_unsigned_chunks.proofs.RunLemmas.{Closed, run-append, run_closed}
use Rattle.s3_unsigned_chunks.proofs.KeptLemmas.{closed_settled, kept_bytes, over_from, run_min, kept_started, settled_closed, taken_settled}

-- the terms that a reader keeps
pub terms_kept : (name : List ℕ) (encoded : ℕ) (terms : Terms) → name ≡ terms.name → encoded ≡ terms.encoded → record { name = name; encoded = encoded; decoded = terms.decoded } ≡ terms
terms_kept name encoded terms one other = rw (one, other) refl

-- what was taken of a piece is all of it that counts
whole_piece : (terms : Terms) (r new : Reading) (piece : List ℕ) (n : ℕ) → new ≡ run terms r (take n piece) → (n ≡ length piece) ⊎ Closed terms new → run terms r (take n piece) ≡ run terms r piece
whole_piece terms r new piece n is reached =
    ⊎_elim
    (λ (all : n ≡ length piece). ap (run terms r) (ap (λ k. take k piece) all ∙ take_all (length piece) piece (omega arith)))
    (λ (shut : Closed terms new).
    sym
    (ap (run terms r) (sym (take-append-drop n piece))
    ∙ run-append terms r (take n piece) (drop n piece)
    ∙ run_closed terms (run terms r (take n piece)) (drop n piece) (ap (λ (q : Reading). is_closed terms.encoded q.place q.taken) (sym is) ∙ shut)))
    reached

-- a reading of any bytes goes on to the piece behind them
pub fed : (kept terms : Terms) (bytes piece : List ℕ) (n : ℕ) (old new : Reading) → kept ≡ terms → old ≡ run terms (started terms) bytes → new ≡ run kept old (take n piece) → (n ≡ length piece) ⊎ Closed kept new → new ≡ run terms (started terms) (bytes ++ piece)
fed kept terms bytes piece n old new same was is reached =
    is
    ∙ whole_piece kept old new piece n is reached
    ∙ ap (λ (t : Terms). run t old piece) same
    ∙ ap (λ (r : Reading). run terms r piece) was
    ∙ sym (run-append terms (started terms) bytes piece)

-- where it took no more, and has not refused, it is done
pub fed_done : (kept terms : Terms) (bytes piece : List ℕ) (n : ℕ) (old new : Reading) → kept ≡ terms → old ≡ run terms (started terms) bytes → new ≡ run kept old (take n piece) → Closed kept new → code_at new.place ≡ None → new.place ≡ Over
fed_done kept terms bytes piece n old new same was is shut none =
    let all = fed kept terms bytes piece n old new same was is (inr shut) in
    let closed : Closed terms (run terms (started terms) (bytes ++ piece)) =
    ap (λ (t : Terms). is_closed t.encoded (run terms (started terms) (bytes ++ piece)).place (run terms (started terms) (bytes ++ piece)).taken) (sym same)
    ∙ ap (λ (q : Reading). is_closed kept.encoded q.place q.taken) (sym all) ∙ shut in
    over_from new.place
    (ap (λ (q : Reading). is_settled q.place) all ∙ closed_settled terms _ (kept_bytes terms (bytes ++ piece)) closed)
    none

-- what a reader answers
abbrev refusal_at : Bool → Place → Option Code
refusal_at lost place = if lost then Some InternalError else code_at place

pub no_code : (lost : Bool) (place : Place) → lost ≡ false → refusal_at lost place ≡ None → code_at place ≡ None
no_code true place kept none = absurd (false≢true (sym kept))
no_code false place kept none = none

refused_settled : (place : Place) (code : Code) → code_at place ≡ Some code → is_settled place ≡ true
refused_settled (Refused fault) code is = refl
refused_settled Over code is = refl
refused_settled (Size digits) code is = absurd (none-some code is)
refused_settled (SizeEnd size) code is = absurd (none-some code is)
refused_settled (Data left) code is = absurd (none-some code is)
refused_settled DataEnd code is = absurd (none-some code is)
refused_settled (Name matched) code is = absurd (none-some code is)
refused_settled Value code is = absurd (none-some code is)
refused_settled Gap code is = absurd (none-some code is)
refused_settled ValueEnd code is = absurd (none-some code is)
refused_settled Last code is = absurd (none-some code is)
refused_settled LastEnd code is = absurd (none-some code is)

pub failed_settled : (lost : Bool) (place : Place) (code : Code) → lost ≡ false → refusal_at lost place ≡ Some code → is_settled place ≡ true
failed_settled true place code kept is = absurd (false≢true (sym kept))
failed_settled false place code kept is = refused_settled place code is

-- what is settled stands after anything more
pub still : (terms : Terms) (bytes piece : List ℕ) (r : Reading) → r ≡ run terms (started terms) bytes → is_settled r.place ≡ true → r ≡ run terms (started terms) (bytes ++ piece)
still terms bytes piece r is settled' =
    sym (run_closed terms r piece (settled_closed terms r settled'))
    ∙ ap (λ (q : Reading). run terms q piece) is
    ∙ sym (run-append terms (started terms) bytes piece)

-- where nothing was refused and fewer bytes than Content-Length were taken, fewer have come
pub room_short : (terms : Terms) (bytes : List ℕ) (r : Reading) → r ≡ run terms (started terms) bytes → code_at r.place ≡ None → r.taken < terms.encoded → length bytes < terms.encoded
room_short terms bytes r is none room =
    let counted = run_min terms (started terms) bytes (kept_started terms) (ap (λ (q : Reading). code_at q.place) (sym is) ∙ none) in
    let taken : r.taken ≡ (run terms (started terms) bytes).taken = ap (λ (q : Reading). q.taken) is in
    let nothing : (started terms).taken ≡ 0 = taken_settled terms.encoded _ in
    omega (arith, room, counted, taken, nothing)

-- a reader that has no code to answer has refused nothing
unfailed_at : (place : Place) → ((code : Code) → code_at place ≡ Some code → ⊥) → code_at place ≡ None
unfailed_at (Refused fault) none = absurd (none _ refl)
unfailed_at Over none = refl
unfailed_at (Size digits) none = refl
unfailed_at (SizeEnd size) none = refl
unfailed_at (Data left) none = refl
unfailed_at DataEnd none = refl
unfailed_at (Name matched) none = refl
unfailed_at Value none = refl
unfailed_at Gap none = refl
unfailed_at ValueEnd none = refl
unfailed_at Last none = refl
unfailed_at LastEnd none = refl

pub unfailed : (lost : Bool) (place : Place) → lost ≡ false → ((code : Code) → refusal_at lost place ≡ Some code → ⊥) → code_at place ≡ None
unfailed true place kept none = absurd (false≢true (sym kept))
unfailed false place kept none = unfailed_at place none
