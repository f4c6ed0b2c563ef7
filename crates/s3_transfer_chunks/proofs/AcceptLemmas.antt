-- What is accepted is a body, and what is refused has one of two reasons.
use Rattle.std.proofs.Common.{◌≡◌, ℕ, suc, ◌≤◌, ◌⊎◌, ⊎_elim, inl, inr, Bool, true, false, List, [], ◌∷◌, ◌++◌, length, take, refl, sym, ap, ◌∙◌, subst, arith, append_assoc, ltb-true}
use Rattle.std.proofs.lemmas.Bool.{cases_Bool, false≢true}
use Rattle.std.proofs.lemmas.List.{append-nil}
use Rattle.s3_terms.specs.declared.code.Code.{Code}
use Rattle.s3_terms.specs.declared.code.Code.TheVariants.{InvalidRequest, EntityTooLarge}
use Rattle.s3_transfer_chunks.specs.Body.{IsTooLarge, IsTransferBody}
use Rattle.s3_transfer_chunks.specs.Finality.{IsDecided}
use Rattle.s3_transfer_chunks.specs.Reading.{Reading, after_byte, code_of, count_taken, data_left, is_data, is_settled, reading_of, run, started, stopped, refused, taken_in}
use Rattle.s3_transfer_chunks.specs.Verdict.{Verdict, Accepted, Open, accepts, verdict_at, verdict_of}
use Rattle.s3_transfer_chunks.specs.Verdict as verdicts
use Rattle.s3_transfer_chunks.specs.declared.place.Fault.{Fault}
use Rattle.s3_transfer_chunks.specs.declared.place.Fault.TheVariants.{Invalid, TooLarge, Incomplete}
use Rattle.s3_transfer_chunks.specs.declared.place.Place.{Place}
use Rattle.s3_transfer_chunks.specs.declared.place.Place.TheVariants.{Size, Line, Data, DataEnd, Last, LastEnd, Over, Refused}
use Rattle.s3_transfer_chunks.proofs.RunLemmas.{Reads, Settled, after_data, after_other, count_bound, count_reads, count_settled, run_settled}
use Rattle.s3_transfer_chunks.proofs.CourseLemmas.{At, Course, IsReason, data_grows, from_place}
use Rattle.s3_transfer_chunks.proofs.FinalLemmas.{decided_run, refused_place}

course_data : (limit : ℕ) (text : List ℕ) (place : Place) (left : ℕ) (held : List ℕ) (byte : ℕ) → At limit text left held place → is_data place ≡ true → At limit (text ++ byte ∷ []) left (held ++ byte ∷ []) (data_left place 1)
course_data limit text (Data more) left held byte at inside = data_grows limit text more left held byte at (ltb-true 0 more inside)
course_data limit text (Size digits) left held byte at inside = absurd (false≢true inside)
course_data limit text (Line size tail) left held byte at inside = absurd (false≢true inside)
course_data limit text DataEnd left held byte at inside = absurd (false≢true inside)
course_data limit text Last left held byte at inside = absurd (false≢true inside)
course_data limit text LastEnd left held byte at inside = absurd (false≢true inside)
course_data limit text Over left held byte at inside = absurd (false≢true inside)
course_data limit text (Refused fault) left held byte at inside = absurd (false≢true inside)

course_as : (limit : ℕ) (text : List ℕ) (r : Reading) (byte : ℕ) (inside : Bool) → Course limit text r → Reads r → is_data r.place ≡ inside → Course limit (text ++ byte ∷ []) (after_byte r byte)
course_as limit text r byte true course reads is =
    subst (Course limit (text ++ byte ∷ [])) (sym (after_data r byte reads is))
    (course_data limit text r.place r.left r.held byte course is)
course_as limit text r byte false course reads is =
    subst (Course limit (text ++ byte ∷ [])) (sym (after_other r byte reads is))
    (from_place limit text r.place r.left r.held byte course is)

course_after : (limit : ℕ) (text : List ℕ) (r : Reading) (byte : ℕ) → Course limit text r → Reads r → Course limit (text ++ byte ∷ []) (after_byte r byte)
course_after limit text r byte course reads = course_as limit text r byte (is_data r.place) course reads refl

-- what has come is a part of a body, as far as it was taken
course_run : (limit : ℕ) (text : List ℕ) (r : Reading) (bytes : List ℕ) → Course limit text r → Course limit (text ++ take (count_taken r bytes) bytes) (run r bytes)
course_run limit text r [] course = subst (λ (t : List ℕ). Course limit t r) (sym (append-nil text)) course
course_run limit text r (byte ∷ bytes) course =
    ⊎_elim
    (λ (h : Settled r).
    let none = count_settled r (byte ∷ bytes) h in
    subst (λ (q : Reading). Course limit (text ++ take (count_taken r (byte ∷ bytes)) (byte ∷ bytes)) q) (sym (run_settled r (byte ∷ bytes) h))
    (subst (λ (t : List ℕ). Course limit t r) (sym (append-nil text) ∙ ap (λ n. text ++ take n (byte ∷ bytes)) (sym none)) course))
    (λ (h : Reads r).
    let next = after_byte r byte in
    let one : suc (count_taken next bytes) ≡ count_taken r (byte ∷ bytes) = omega (arith, count_reads r byte bytes h) in
    subst (λ (t : List ℕ). Course limit t (run next bytes))
    (append_assoc text (byte ∷ []) (take (count_taken next bytes) bytes) ∙ ap (λ n. text ++ take n (byte ∷ bytes)) one)
    (course_run limit (text ++ byte ∷ []) next bytes (course_after limit text r byte course h)))
    (cases_Bool (is_settled r.place))

course_started : (limit : ℕ) → Course limit [] (started limit)
course_started limit = record {
  chunks = [];
  tail = [];
  front = record { each = tt; written = refl; given = refl };
  count = refl;
  most = omega arith;
  spelled = refl;
  number = refl;
  sum = omega arith;
}

pub course_bytes : (limit : ℕ) (bytes : List ℕ) → Course limit (take (taken_in limit bytes) bytes) (run (started limit) bytes)
course_bytes limit bytes = course_run limit [] (started limit) bytes (course_started limit)

pub over_body : (limit : ℕ) (text : List ℕ) (left : ℕ) (held : List ℕ) → At limit text left held Over → IsTransferBody text held × (length held ≤ limit)
over_body limit text left held at = (
  record {
    chunks = at.chunks;
    last = at.last;
    extension = at.extension;
    each = at.front.each;
    ends = at.ends;
    written = at.front.written;
    joined = at.front.given ∙ append-nil _;
  },
  omega (arith, at.sum),
)

abbrev data_in : Verdict → List ℕ
data_in (Accepted place held) = held
data_in (verdicts.Refused place code) = []
data_in (Open held) = []

abbrev place_in : Verdict → ℕ
place_in (Accepted place held) = place
place_in (verdicts.Refused place code) = 0
place_in (Open held) = 0

-- what is accepted is over, at this place and with this data
accepted_at : (place : Place) (taken : ℕ) (held : List ℕ) (at : ℕ) (other : List ℕ) → verdict_at place taken held ≡ Accepted at other → (place ≡ Over) × (taken ≡ at) × (held ≡ other)
accepted_at Over taken held at other is = (refl, ap place_in is, ap data_in is)
accepted_at (Size digits) taken held at other is = absurd (false≢true (ap accepts is))
accepted_at (Line size tail) taken held at other is = absurd (false≢true (ap accepts is))
accepted_at (Data left) taken held at other is = absurd (false≢true (ap accepts is))
accepted_at DataEnd taken held at other is = absurd (false≢true (ap accepts is))
accepted_at Last taken held at other is = absurd (false≢true (ap accepts is))
accepted_at LastEnd taken held at other is = absurd (false≢true (ap accepts is))
accepted_at (Refused fault) taken held at other is = absurd (false≢true (ap accepts is))

-- the body is over
abbrev is_over : Place → Bool
is_over Over = true
is_over (Size digits) = false
is_over (Line size tail) = false
is_over (Data left) = false
is_over DataEnd = false
is_over Last = false
is_over LastEnd = false
is_over (Refused fault) = false

-- the end of the input changes nothing of what is over
over_same : (limit : ℕ) (bytes : List ℕ) (ended : Bool) → (reading_of limit bytes ended).place ≡ Over → reading_of limit bytes ended ≡ run (started limit) bytes
over_same limit bytes false is = refl
over_same limit bytes true is =
    let r = run (started limit) bytes in
    ⊎_elim
    (λ (h : Settled r). stopped_settled r h)
    (λ (h : Reads r).
    absurd (false≢true (ap is_over (ap (λ (q : Reading). q.place) (sym (stopped_going r h)) ∙ is))))
    (cases_Bool (is_settled r.place))
  where
    stopped_settled : (r : Reading) → Settled r → stopped r ≡ r
    stopped_settled r h = rw h refl

    stopped_going : (r : Reading) → Reads r → stopped r ≡ refused r Incomplete
    stopped_going r h = rw h refl

pub accepted_body : (limit : ℕ) (bytes : List ℕ) (ended : Bool) (place : ℕ) (held : List ℕ) → verdict_of limit bytes ended ≡ Accepted place held → (place ≤ length bytes) × IsTransferBody (take place bytes) held × (length held ≤ limit)
accepted_body limit bytes ended place held is =
    let q = reading_of limit bytes ended in
    let r = run (started limit) bytes in
    let end = accepted_at q.place (taken_in limit bytes) q.held place held is in
    let same : q ≡ r = over_same limit bytes ended end.0 in
    let over : r.place ≡ Over = ap (λ (x : Reading). x.place) (sym same) ∙ end.0 in
    let given : r.held ≡ held = ap (λ (x : Reading). x.held) (sym same) ∙ end.2 in
    let text = take (taken_in limit bytes) bytes in
    let at : At limit text r.left r.held Over = subst (At limit text r.left r.held) over (course_bytes limit bytes) in
    let body = over_body limit text r.left r.held at in
    let bound = count_bound (started limit) bytes in (
      omega (arith, bound, end.1),
      subst (λ (h : List ℕ). IsTransferBody (take place bytes) h) given
          (subst (λ (n : ℕ). IsTransferBody (take n bytes) r.held) end.1 body.0),
      subst (λ (h : List ℕ). length h ≤ limit) given body.1,
    )

-- ---- reasons

abbrev code_in : Verdict → Code
code_in (verdicts.Refused place code) = code
code_in (Accepted place held) = InvalidRequest
code_in (Open held) = InvalidRequest

reason_code : (limit : ℕ) (text : List ℕ) (fault : Fault) → IsReason limit text fault → (code_of fault ≡ InvalidRequest) ⊎ (code_of fault ≡ EntityTooLarge)
reason_code limit text Invalid is = inl refl
reason_code limit text TooLarge is = inr refl
reason_code limit text Incomplete is = absurd is

refused_at : (limit : ℕ) (text : List ℕ) (place : Place) (left taken : ℕ) (held : List ℕ) → At limit text left held place → is_settled place ≡ true → (code_in (verdict_at place taken held) ≡ InvalidRequest) ⊎ (code_in (verdict_at place taken held) ≡ EntityTooLarge)
refused_at limit text (Refused fault) left taken held at is = reason_code limit text fault at
refused_at limit text Over left taken held at is = inl refl
refused_at limit text (Size digits) left taken held at is = absurd (false≢true is)
refused_at limit text (Line size tail) left taken held at is = absurd (false≢true is)
refused_at limit text (Data more) left taken held at is = absurd (false≢true is)
refused_at limit text DataEnd left taken held at is = absurd (false≢true is)
refused_at limit text Last left taken held at is = absurd (false≢true is)
refused_at limit text LastEnd left taken held at is = absurd (false≢true is)

pub refused_reason : (limit : ℕ) (bytes : List ℕ) (place : ℕ) (code : Code) → verdict_of limit bytes false ≡ verdicts.Refused place code → (code ≡ InvalidRequest) ⊎ (code ≡ EntityTooLarge)
refused_reason limit bytes place code is =
    let r = run (started limit) bytes in
    subst (λ (c : Code). (c ≡ InvalidRequest) ⊎ (c ≡ EntityTooLarge)) (ap code_in is)
    (refused_at limit (take (taken_in limit bytes) bytes) r.place r.left (taken_in limit bytes) r.held (course_bytes limit bytes)
    (decided_run limit bytes (subst IsDecided (sym is) tt)))

-- a refusal for the size
abbrev is_large : Verdict → Bool
is_large (verdicts.Refused place EntityTooLarge) = true
is_large other = false

large_fault : (limit : ℕ) (text : List ℕ) (fault : Fault) (taken at : ℕ) → IsReason limit text fault → verdicts.Refused taken (code_of fault) ≡ verdicts.Refused at EntityTooLarge → IsTooLarge limit text
large_fault limit text Invalid taken at reason is = absurd (false≢true (ap is_large is))
large_fault limit text TooLarge taken at reason is = reason
large_fault limit text Incomplete taken at reason is = absurd reason

large_at : (limit : ℕ) (text : List ℕ) (place : Place) (left taken at : ℕ) (held : List ℕ) → At limit text left held place → verdict_at place taken held ≡ verdicts.Refused at EntityTooLarge → IsTooLarge limit text
large_at limit text (Refused fault) left taken at held course is = large_fault limit text fault taken at course is
large_at limit text Over left taken at held course is = absurd (false≢true (ap is_large is))
large_at limit text (Size digits) left taken at held course is = absurd (false≢true (ap is_large is))
large_at limit text (Line size tail) left taken at held course is = absurd (false≢true (ap is_large is))
large_at limit text (Data more) left taken at held course is = absurd (false≢true (ap is_large is))
large_at limit text DataEnd left taken at held course is = absurd (false≢true (ap is_large is))
large_at limit text Last left taken at held course is = absurd (false≢true (ap is_large is))
large_at limit text LastEnd left taken at held course is = absurd (false≢true (ap is_large is))

pub large_size : (limit : ℕ) (bytes : List ℕ) (place : ℕ) → verdict_of limit bytes false ≡ verdicts.Refused place EntityTooLarge → IsTooLarge limit (take place bytes)
large_size limit bytes place is =
    let r = run (started limit) bytes in
    let n = taken_in limit bytes in
    subst (λ (k : ℕ). IsTooLarge limit (take k bytes)) (refused_place limit bytes false place EntityTooLarge is)
    (large_at limit (take n bytes) r.place r.left n place r.held (course_bytes limit bytes) is)
