-- What is open lacks bytes, and no reader takes more bytes than have come.
use Rattle.std.proofs.Common.{◌≡◌, ℕ, ◌<◌, ◌≤◌, ◌⊎◌, ⊎_elim, Bool, true, false, List, [], ◌∷◌, length, refl, sym, ap, ◌∙◌, subst, arith, None}
use Rattle.s3_terms.specs.declared.code.Code.TheVariants.{IncompleteBody}
use Rattle.s3_aws_chunked.specs.Count.{Count}
use Rattle.s3_aws_chunked.specs.Verdict.{Terms, IsRefused, Open, Judges}
use Rattle.s3_aws_chunked.specs.Decoder.{Progress, Shows, fault_at, is_closed, is_data, is_settled, progress_of, run, started, stepped, stopped}
use Rattle.s3_aws_chunked.specs.declared.decoder.Decoder.{Decoder}
use Rattle.s3_aws_chunked.specs.declared.place.Place.{Place}
use Rattle.s3_aws_chunked.proofs.KnownLemmas.{Going, Halted, Completed}
use Rattle.s3_aws_chunked.proofs.JudgeLemmas.{judges_halted, judges_stopped, known_after, progress_counts}
use Rattle.s3_aws_chunked.proofs.PlaceLemmas.{span_byte, span_data, span_settled}

-- a body that is open is one that goes on
open_goes : (terms : Terms) (bytes held : List ℕ) → Judges terms bytes false (Open held) → Going terms bytes (run (started terms) bytes)
open_goes terms bytes held judged =
    let p = run (started terms) bytes in
    ⊎_elim
    (λ (g : Going terms bytes p). g)
    (λ (ends : Halted terms bytes p ⊎ Completed terms bytes p).
    ⊎_elim
    (λ (h : Halted terms bytes p). absurd (judged.0 _ _ (judges_halted terms bytes false p h)))
    (λ (d : Completed terms bytes p). absurd (judged.1 p.held d.accepted))
    ends)
    (known_after terms bytes)

pub open_short : (terms : Terms) (bytes held : List ℕ) → Judges terms bytes false (Open held) → length bytes < terms.encoded
open_short terms bytes held judged = (open_goes terms bytes held judged).below

pub open_incomplete : (terms : Terms) (bytes held : List ℕ) → Judges terms bytes false (Open held) → IsRefused terms bytes true (length bytes) IncompleteBody
open_incomplete terms bytes held judged =
    let p = run (started terms) bytes in
    let g = open_goes terms bytes held judged in
    subst (λ (place : ℕ). IsRefused terms bytes true place IncompleteBody) (ap (λ (s : Count). s.taken) g.course.span) (judges_stopped terms bytes p g)

-- the end of the input takes nothing
stopped_taken : (p : Progress) (settled : Bool) → is_settled p.place.phase ≡ settled → (stopped p).place.span ≡ p.place.span
stopped_taken p true is = rw is refl
stopped_taken p false is = rw is refl

-- what was taken has come
run_come : (terms : Terms) (bytes : List ℕ) → (run (started terms) bytes).place.span.taken ≤ length bytes
run_come terms bytes =
    let p = run (started terms) bytes in
    ⊎_elim
    (λ (g : Going terms bytes p).
    let taken : p.place.span.taken ≡ length bytes = ap (λ (s : Count). s.taken) g.course.span in
    omega (arith, taken))
    (λ (ends : Halted terms bytes p ⊎ Completed terms bytes p).
    ⊎_elim
    (λ (h : Halted terms bytes p). h.come)
    (λ (d : Completed terms bytes p). omega (arith, d.taken, d.accepted.come))
    ends)
    (known_after terms bytes)

pub progress_come : (terms : Terms) (bytes : List ℕ) (ended : Bool) → (progress_of terms bytes ended).place.span.taken ≤ length bytes
progress_come terms bytes true =
    let p = run (started terms) bytes in
    rw (stopped_taken p (is_settled p.place.phase) refl) (run_come terms bytes)
progress_come terms bytes false = run_come terms bytes

-- ---- bytes of Content-Length are to come

whole_step_as : (p : Progress) (byte : ℕ) (shut inside : Bool) → is_closed p.place ≡ shut → is_data p.place.phase ≡ inside
    → (stepped p byte).place.span.whole ≡ p.place.span.whole
unfolding stepped
whole_step_as p byte true inside h k = rw h refl
whole_step_as p byte false true h k = rw (h, k) (ap (λ (s : Count). s.whole) (span_data p (byte ∷ [])))
whole_step_as p byte false false h k = rw (h, k) (ap (λ (s : Count). s.whole) (span_byte p byte))

pub whole_run : (p : Progress) (bytes : List ℕ) → (run p bytes).place.span.whole ≡ p.place.span.whole
whole_run p [] = refl
whole_run p (byte ∷ bytes) =
    whole_run (stepped p byte) bytes ∙ whole_step_as p byte (is_closed p.place) (is_data p.place.phase) refl refl

-- where the decoder has refused nothing and counts fewer bytes than Content-Length, fewer have come
pub room_short : (terms : Terms) (bytes : List ℕ) (decoder : Decoder) → Shows decoder (run (started terms) bytes) → fault_at decoder.place.phase ≡ None
    → decoder.place.span.taken < decoder.place.span.whole → length bytes < terms.encoded
room_short terms bytes decoder shown none room =
    let p = run (started terms) bytes in
    let counted = progress_counts terms bytes false (ap (λ (q : Place). fault_at q.phase) (sym shown.place) ∙ none) in
    let all : p.place.span.whole ≡ terms.encoded = whole_run (started terms) bytes ∙ ap (λ (s : Count). s.whole) (span_settled _) in
    let taken : decoder.place.span.taken ≡ p.place.span.taken = ap (λ (q : Place). q.span.taken) shown.place in
    let whole : decoder.place.span.whole ≡ p.place.span.whole = ap (λ (q : Place). q.span.whole) shown.place in
    omega (arith, room, counted, all, taken, whole)
