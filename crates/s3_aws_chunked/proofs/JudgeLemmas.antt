-- The verdict on the bytes so far.
use Rattle.std.proofs.Common.{◌≡◌, ℕ, ◌+◌, ◌<◌, ◌≤◌, ◌⊎◌, ⊎_elim, Bool, true, false, ◌==◌, nat_lt, List, [], ◌∷◌, ◌++◌, length, take, min, replicate, refl, sym, ap, subst, ◌∙◌, arith, append_assoc, inl, inr, None, lt-ltb}
use Rattle.std.proofs.lemmas.Bool.{false≢true, cases_Bool}
use Rattle.std.proofs.lemmas.Option.{none-some}
use Rattle.std.proofs.lemmas.List.{append-nil, length_push, take_all, take-append-le, length-take-le}
use Rattle.sha2.specs.Sha256.{sha256}
use Rattle.s3_terms.specs.declared.code.Code.TheVariants.{IncompleteBody}
use Rattle.s3_aws_chunked.specs.Body.{IsBody}
use Rattle.s3_aws_chunked.specs.Verdict.{Terms, IsRefused, IsUnrefused, HoldsSoFar, Verdict, Accepted, Open, Judges}
use Rattle.s3_aws_chunked.specs.Count.{Count, advanced}
use Rattle.s3_aws_chunked.specs.Phase.{read}
use Rattle.s3_aws_chunked.specs.Decoder.{Progress, code_of, fault_at, is_settled, is_closed, is_data, counted, moved, refused, data_left, data_read, byte_read, stepped, run, started, stopped, progress_of}
use Rattle.s3_aws_chunked.specs.Reader.{verdict_at}
use Rattle.s3_aws_chunked.specs.declared.place.Place.{Place}
use Rattle.s3_aws_chunked.specs.declared.phase.Fault.TheVariants.{Incomplete}
use Rattle.s3_aws_chunked.specs.declared.phase.Phase.{Phase}
use Rattle.s3_aws_chunked.specs.declared.phase.Phase.TheVariants.{Size, Line, Data, Ending, Over, Refused}
use Rattle.s3_aws_chunked.proofs.FaultLemmas.{Silent, Found, silent_none, found_any, found_end}
use Rattle.s3_aws_chunked.proofs.CourseLemmas.{Course, course_holds}
use Rattle.s3_aws_chunked.proofs.RunLemmas.{stepped_closed, step_byte, step_data}
use Rattle.s3_aws_chunked.proofs.PlaceLemmas.{span_turn}
use Rattle.s3_aws_chunked.proofs.KnownLemmas.{Going, Halted, Completed, Known, Before, byte_at, data_at, outcome_known, course_known, unsettled}

-- the texts before one more byte
before_more : (terms : Terms) (text : List ℕ) (byte : ℕ) → ((n : ℕ) → n ≤ length text → Silent terms (take n text)) → Before terms (text ++ byte ∷ [])
before_more terms text byte silent n less =
    let long : length (text ++ byte ∷ []) ≡ length text + 1 = length_push text byte in
    let within : n ≤ length text = omega (arith, long, less) in
    subst (Silent terms) (sym (take-append-le n text (byte ∷ []) within)) (silent n within)

open_place : (terms : Terms) (text : List ℕ) (p : Progress) → (g : Going terms text p) → is_closed p.place ≡ false
open_place terms text p g =
    let c = g.course in
    let taken : p.place.span.taken ≡ length text = ap (λ (s : Count). s.taken) c.span in
    let whole : p.place.span.whole ≡ terms.encoded = ap (λ (s : Count). s.whole) c.span in
    let room : nat_lt p.place.span.taken p.place.span.whole ≡ true = lt-ltb _ _ (omega (arith, taken, whole, g.below)) in
    rw (unsettled terms p.place p.current p.held c.chunks c.tail p.place.phase c.at, room) refl

-- the count goes on by one
span_more : (terms : Terms) (text : List ℕ) (p : Progress) (byte : ℕ) (span : Count) → Going terms text p → span ≡ advanced p.place.span 1 → span ≡ record { taken = length (text ++ byte ∷ []); whole = terms.encoded }
span_more terms text p byte span g is =
    is ∙ ap (λ (s : Count). advanced s 1) g.course.span ∙ ap (λ (n : ℕ). record { taken = n; whole = terms.encoded }) (sym (length_push text byte))

known_byte : (terms : Terms) (text : List ℕ) (p : Progress) (byte : ℕ) → Going terms text p → is_data p.place.phase ≡ false → Known terms (text ++ byte ∷ []) (byte_read p byte)
unfolding byte_read
known_byte terms text p byte g other =
    let long : length (text ++ byte ∷ []) ≡ length text + 1 = length_push text byte in
    outcome_known terms (text ++ byte ∷ []) _ _ p.held
    (byte_at terms text p.place p.current p.held byte p.place.phase g.course refl other (omega (arith, g.below)))
    (span_more terms text p byte _ g (span_turn (counted p.place 1) (read p.place.phase byte) byte (sha256 p.current)))
    (omega (arith, long, g.below))
    (before_more terms text byte g.silent)

known_data : (terms : Terms) (text : List ℕ) (p : Progress) (byte : ℕ) → Going terms text p → is_data p.place.phase ≡ true → Known terms (text ++ byte ∷ []) (data_read p (byte ∷ []))
unfolding data_read
known_data terms text p byte g inside =
    let long : length (text ++ byte ∷ []) ≡ length text + 1 = length_push text byte in
    let after : Place = moved (counted p.place 1) (data_left p.place.phase 1) in
    course_known terms (text ++ byte ∷ []) after (p.current ++ byte ∷ []) (p.held ++ byte ∷ [])
    (data_at terms text p.place p.current p.held byte p.place.phase g.course refl inside)
    (omega (arith, long, g.below))
    (before_more terms text byte g.silent)
    (after.span.taken == after.span.whole) refl

known_going : (terms : Terms) (text : List ℕ) (p : Progress) (byte : ℕ) → Going terms text p → Known terms (text ++ byte ∷ []) (stepped p byte)
known_going terms text p byte g =
    let open' = open_place terms text p g in
    ⊎_elim
    (λ (inside : is_data p.place.phase ≡ true). rw (step_data p byte open' inside) (known_data terms text p byte g inside))
    (λ (other : is_data p.place.phase ≡ false). rw (step_byte p byte open' other) (known_byte terms text p byte g other))
    (cases_Bool (is_data p.place.phase))

-- what has refused, or is done, stays so
halted_more : (terms : Terms) (text : List ℕ) (p : Progress) (byte : ℕ) → Halted terms text p → Halted terms (text ++ byte ∷ []) p
halted_more terms text p byte h =
    let long : length (text ++ byte ∷ []) ≡ length text + 1 = length_push text byte in
    record {
      fault = h.fault;
      phase = h.phase;
      within = h.within;
      come = omega (arith, long, h.come);
      found = subst (λ (t : List ℕ). Found terms t (code_of h.fault)) (sym (take-append-le p.place.span.taken text (byte ∷ []) h.come)) h.found;
      silent = λ n less. subst (Silent terms) (sym (take-append-le n text (byte ∷ []) (omega (arith, less, h.come)))) (h.silent n less);
    }

completed_more : (terms : Terms) (text : List ℕ) (p : Progress) (byte : ℕ) → Completed terms text p → Completed terms (text ++ byte ∷ []) p
completed_more terms text p byte d =
    let long : length (text ++ byte ∷ []) ≡ length text + 1 = length_push text byte in
    let a = d.accepted in
    record {
      over = d.over;
      taken = d.taken;
      accepted = record {
        come = omega (arith, long, a.come);
        chunks = a.chunks;
        last = a.last;
        body = subst (λ (t : List ℕ). IsBody t a.chunks a.last) (sym (take-append-le terms.encoded text (byte ∷ []) a.come)) a.body;
        signed = a.signed;
        sum = a.sum;
        joined = a.joined;
      };
      silent = λ n less. subst (Silent terms) (sym (take-append-le n text (byte ∷ []) (omega (arith, less, a.come)))) (d.silent n less);
    }

shut_settled : (place : Place) → is_settled place.phase ≡ true → is_closed place ≡ true
shut_settled place h = rw h refl

known_step : (terms : Terms) (text : List ℕ) (p : Progress) (byte : ℕ) → Known terms text p → Known terms (text ++ byte ∷ []) (stepped p byte)
known_step terms text p byte known =
    ⊎_elim
    (λ (g : Going terms text p). known_going terms text p byte g)
    (λ (ends : Halted terms text p ⊎ Completed terms text p).
    ⊎_elim
    (λ (h : Halted terms text p).
    rw (stepped_closed p byte (shut_settled p.place (ap is_settled h.phase))) (inr (inl (halted_more terms text p byte h))))
    (λ (d : Completed terms text p).
    rw (stepped_closed p byte (shut_settled p.place (ap is_settled d.over))) (inr (inr (completed_more terms text p byte d))))
    ends)
    known

known_run : (terms : Terms) (text : List ℕ) (p : Progress) (bytes : List ℕ) → Known terms text p → Known terms (text ++ bytes) (run p bytes)
known_run terms text p [] known = subst (λ (t : List ℕ). Known terms t p) (sym (append-nil text)) known
known_run terms text p (byte ∷ bytes) known =
    subst (λ (t : List ℕ). Known terms t (run (stepped p byte) bytes)) (append_assoc text (byte ∷ []) bytes)
    (known_run terms (text ++ byte ∷ []) (stepped p byte) bytes (known_step terms text p byte known))

-- nothing has come
first_course : (terms : Terms) → Course terms [] (record { chain = terms.seed; span = record { taken = 0; whole = terms.encoded }; left = terms.decoded; signature = replicate 64 48; phase = Size (0, 0) }) [] []
first_course terms = record {
  chunks = [];
  tail = [];
  each = tt;
  signed = tt;
  written = refl;
  span = refl;
  chain = refl;
  digits = refl;
  at = record {
    long = refl;
    most = omega arith;
    digits = refl;
    spells = refl;
    sum = omega arith;
    fresh = refl;
    given = refl;
  };
}

known_started : (terms : Terms) → Known terms [] (started terms)
known_started terms = course_known terms [] _ [] [] (first_course terms) (omega arith) (λ n less. absurd (omega (arith, less))) (0 == terms.encoded) refl

pub known_after : (terms : Terms) (bytes : List ℕ) → Known terms bytes (run (started terms) bytes)
known_after terms bytes = known_run terms [] (started terms) bytes (known_started terms)

-- so it is refused at no place
unrefused_by : (terms : Terms) (bytes : List ℕ) (ended : Bool) → ((n : ℕ) → n ≤ terms.encoded → n ≤ length bytes → Silent terms (take n bytes)) → ((n : ℕ) → n ≤ terms.encoded → ended ≡ true → length bytes ≡ n → length (take n bytes) < terms.encoded → ⊥) → IsUnrefused terms bytes ended
unrefused_by terms bytes ended silent more place code r =
    silent_none terms (take place bytes) ((ended ≡ true) × (length bytes ≡ place)) code (silent place r.within r.come)
    (λ x. more place r.within x.0.0 x.0.1 x.1)
    r.fault

pub judges_halted : (terms : Terms) (bytes : List ℕ) (ended : Bool) (p : Progress) → (h : Halted terms bytes p) → IsRefused terms bytes ended p.place.span.taken (code_of h.fault)
judges_halted terms bytes ended p h = record {
  within = h.within;
  come = h.come;
  fault = found_any terms (take p.place.span.taken bytes) _ (code_of h.fault) h.found;
  least = λ earlier other less fault.
      silent_none terms (take earlier bytes) ((ended ≡ true) × (length bytes ≡ earlier)) other (h.silent earlier less)
      (λ x. absurd (omega (arith, x.0.1, less, h.come)))
      fault;
}

judges_completed : (terms : Terms) (bytes : List ℕ) (ended : Bool) (p : Progress) → Completed terms bytes p → Judges terms bytes ended (Accepted p.held)
judges_completed terms bytes ended p d = (
  unrefused_by terms bytes ended (λ n within come. d.silent n within)
      (λ n within is whole below.
      let long : length (take n bytes) ≡ n = length-take-le n bytes (omega (arith, whole)) in
      absurd (omega (arith, long, whole, below, d.accepted.come))),
  d.accepted,
)

judges_going : (terms : Terms) (bytes : List ℕ) (p : Progress) → Going terms bytes p → Judges terms bytes false (Open p.held)
judges_going terms bytes p g = (
  unrefused_by terms bytes false (λ n within come. g.silent n come) (λ n within is whole below. false≢true is),
  (λ others a. absurd (omega (arith, a.come, g.below))),
  subst (λ (t : List ℕ). HoldsSoFar t p.held) (sym (take_all terms.encoded bytes (omega (arith, g.below)))) (course_holds terms bytes p.place p.current p.held g.course),
)

pub judges_stopped : (terms : Terms) (bytes : List ℕ) (p : Progress) → (g : Going terms bytes p) → IsRefused terms bytes true p.place.span.taken IncompleteBody
judges_stopped terms bytes p g =
    let taken : p.place.span.taken ≡ length bytes = ap (λ (s : Count). s.taken) g.course.span in
    let long : length (take p.place.span.taken bytes) ≡ p.place.span.taken = length-take-le p.place.span.taken bytes (omega (arith, taken)) in
    record {
      within = omega (arith, taken, g.below);
      come = omega (arith, taken);
      fault =
          found_end terms (take p.place.span.taken bytes) ((true ≡ true) × (length bytes ≡ p.place.span.taken))
          (g.silent p.place.span.taken (omega (arith, taken))) (refl, sym taken) (omega (arith, long, taken, g.below));
      least = λ earlier other less fault.
          silent_none terms (take earlier bytes) ((true ≡ true) × (length bytes ≡ earlier)) other (g.silent earlier (omega (arith, less, taken)))
          (λ x. absurd (omega (arith, x.0.1, less, taken)))
          fault;
    }

-- what a phase says
open_verdict : (phase : Phase) (taken : ℕ) (held : List ℕ) → is_settled phase ≡ false → Open held ≡ verdict_at phase taken held
open_verdict (Size d) taken held h = refl
open_verdict (Line count value) taken held h = refl
open_verdict (Data left last) taken held h = refl
open_verdict (Ending last) taken held h = refl
open_verdict Over taken held h = absurd (false≢true (sym h))
open_verdict (Refused fault) taken held h = absurd (false≢true (sym h))

verdict_p : Progress → Verdict
verdict_p p = verdict_at p.place.phase p.place.span.taken p.held

judges_settled : (terms : Terms) (bytes : List ℕ) (ended : Bool) (p : Progress) → Halted terms bytes p ⊎ Completed terms bytes p → Judges terms bytes ended (verdict_p p)
unfolding verdict_p
judges_settled terms bytes ended p ends =
    ⊎_elim
    (λ (h : Halted terms bytes p).
    subst (λ (phase : Phase). Judges terms bytes ended (verdict_at phase p.place.span.taken p.held)) (sym h.phase) (judges_halted terms bytes ended p h))
    (λ (d : Completed terms bytes p).
    subst (λ (phase : Phase). Judges terms bytes ended (verdict_at phase p.place.span.taken p.held)) (sym d.over) (judges_completed terms bytes ended p d))
    ends

judges_open : (terms : Terms) (bytes : List ℕ) (p : Progress) → Known terms bytes p → Judges terms bytes false (verdict_p p)
unfolding verdict_p
judges_open terms bytes p known =
    ⊎_elim
    (λ (g : Going terms bytes p).
    subst (Judges terms bytes false)
    (open_verdict p.place.phase p.place.span.taken p.held (unsettled terms p.place p.current p.held g.course.chunks g.course.tail p.place.phase g.course.at))
    (judges_going terms bytes p g))
    (judges_settled terms bytes false p)
    known

pub stopped_shut : (p : Progress) → is_settled p.place.phase ≡ true → stopped p ≡ p
stopped_shut p h = rw h refl

pub stopped_open : (p : Progress) → is_settled p.place.phase ≡ false → stopped p ≡ record p { place = refused p.place Incomplete }
stopped_open p h = rw h refl

pub settled_phase : (terms : Terms) (bytes : List ℕ) (p : Progress) → Halted terms bytes p ⊎ Completed terms bytes p → is_settled p.place.phase ≡ true
settled_phase terms bytes p ends =
    ⊎_elim (λ (h : Halted terms bytes p). ap is_settled h.phase) (λ (d : Completed terms bytes p). ap is_settled d.over) ends

judges_ended : (terms : Terms) (bytes : List ℕ) (p : Progress) → Known terms bytes p → Judges terms bytes true (verdict_p (stopped p))
unfolding verdict_p
judges_ended terms bytes p known =
    ⊎_elim
    (λ (g : Going terms bytes p).
    subst (λ (q : Progress). Judges terms bytes true (verdict_p q))
    (sym (stopped_open p (unsettled terms p.place p.current p.held g.course.chunks g.course.tail p.place.phase g.course.at)))
    (judges_stopped terms bytes p g))
    (λ (ends : Halted terms bytes p ⊎ Completed terms bytes p).
    subst (λ (q : Progress). Judges terms bytes true (verdict_p q)) (sym (stopped_shut p (settled_phase terms bytes p ends)))
    (judges_settled terms bytes true p ends))
    known

pub progress_judges : (terms : Terms) (bytes : List ℕ) (ended : Bool) → Judges terms bytes ended (verdict_at (progress_of terms bytes ended).place.phase (progress_of terms bytes ended).place.span.taken (progress_of terms bytes ended).held)
unfolding verdict_p
progress_judges terms bytes true = judges_ended terms bytes (run (started terms) bytes) (known_after terms bytes)
progress_judges terms bytes false = judges_open terms bytes (run (started terms) bytes) (known_after terms bytes)

-- how many bytes were taken, where nothing is wrong
count_known : (terms : Terms) (bytes : List ℕ) (p : Progress) → Known terms bytes p → fault_at p.place.phase ≡ None → p.place.span.taken ≡ min terms.encoded (length bytes)
count_known terms bytes p known none =
    ⊎_elim
    (λ (g : Going terms bytes p).
    let taken : p.place.span.taken ≡ length bytes = ap (λ (s : Count). s.taken) g.course.span in
    omega (arith, taken, g.below))
    (λ (ends : Halted terms bytes p ⊎ Completed terms bytes p).
    ⊎_elim
    (λ (h : Halted terms bytes p). absurd (none-some h.fault (sym none ∙ ap fault_at h.phase)))
    (λ (d : Completed terms bytes p). omega (arith, d.taken, d.accepted.come))
    ends)
    known

stopped_counts : (terms : Terms) (bytes : List ℕ) (p : Progress) → Known terms bytes p → fault_at (stopped p).place.phase ≡ None → (stopped p).place.span.taken ≡ min terms.encoded (length bytes)
stopped_counts terms bytes p known none =
    ⊎_elim
    (λ (g : Going terms bytes p).
    let is = stopped_open p (unsettled terms p.place p.current p.held g.course.chunks g.course.tail p.place.phase g.course.at) in
    absurd (none-some Incomplete (sym none ∙ ap (λ (q : Progress). fault_at q.place.phase) is)))
    (λ (ends : Halted terms bytes p ⊎ Completed terms bytes p).
    let is = stopped_shut p (settled_phase terms bytes p ends) in
    ap (λ (q : Progress). q.place.span.taken) is
    ∙ count_known terms bytes p (inr ends) (ap (λ (q : Progress). fault_at q.place.phase) (sym is) ∙ none))
    known

pub progress_counts : (terms : Terms) (bytes : List ℕ) (ended : Bool) → fault_at (progress_of terms bytes ended).place.phase ≡ None → (progress_of terms bytes ended).place.span.taken ≡ min terms.encoded (length bytes)
progress_counts terms bytes true none = stopped_counts terms bytes (run (started terms) bytes) (known_after terms bytes) none
progress_counts terms bytes false none = count_known terms bytes (run (started terms) bytes) (known_after terms bytes) none
