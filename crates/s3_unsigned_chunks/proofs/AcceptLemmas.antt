-- What is accepted is a body, and what is refused begins none.
use Rattle.std.proofs.Common.{◌≡◌, ℕ, suc, ◌+◌, ◌-◌, ◌≤◌, ⊎_elim, Bool, true, false, List, [], ◌∷◌, ◌++◌, length, take, refl, sym, ap, ◌∙◌, subst, arith, append_assoc, ltb-true}
use Rattle.std.proofs.lemmas.Bool.{cases_Bool, false≢true}
use Rattle.std.proofs.lemmas.List.{append-nil}
use Rattle.s3_unsigned_chunks.specs.Body.{IsBody}
use Rattle.s3_unsigned_chunks.specs.Reading.{Terms, Reading, byte_read, data_read, data_left, is_closed, is_data, is_settled, after_byte, reading_of, refused, run, started, stopped}
use Rattle.s3_unsigned_chunks.specs.Verdict.{Verdict, Accepted, Open, accepts, verdict_at, verdict_of}
use Rattle.s3_unsigned_chunks.specs.Verdict as verdicts
use Rattle.s3_unsigned_chunks.specs.declared.place.Fault.TheVariants.{Incomplete}
use Rattle.s3_unsigned_chunks.specs.declared.place.Place.{Place}
use Rattle.s3_unsigned_chunks.specs.declared.place.Place.TheVariants.{Size, SizeEnd, Data, DataEnd, Name, Value, Gap, ValueEnd, Last, LastEnd, Over, Refused}
use Rattle.s3_unsigned_chunks.proofs.RunLemmas.{Reads, after_data, after_other, run_closed}
use Rattle.s3_unsigned_chunks.proofs.KeptLemmas.{is_over, reads_below, run_bounds, taken_after, taken_settled}
use Rattle.s3_unsigned_chunks.proofs.CourseLemmas.{At, Course, course_settled, data_grows, from_place}

course_data : (terms : Terms) (text : List ℕ) (place : Place) (taken left : ℕ) (value held : List ℕ) (byte : ℕ) → At terms text taken left value held place → is_data place ≡ true → At terms (text ++ byte ∷ []) (taken + 1) left value (held ++ byte ∷ []) (data_left place 1)
course_data terms text (Data more) taken left value held byte at inside = data_grows terms text more taken left value held byte at (ltb-true 0 more inside)
course_data terms text (Size digits) taken left value held byte at inside = absurd (false≢true inside)
course_data terms text (SizeEnd size) taken left value held byte at inside = absurd (false≢true inside)
course_data terms text DataEnd taken left value held byte at inside = absurd (false≢true inside)
course_data terms text (Name matched) taken left value held byte at inside = absurd (false≢true inside)
course_data terms text Value taken left value held byte at inside = absurd (false≢true inside)
course_data terms text Gap taken left value held byte at inside = absurd (false≢true inside)
course_data terms text ValueEnd taken left value held byte at inside = absurd (false≢true inside)
course_data terms text Last taken left value held byte at inside = absurd (false≢true inside)
course_data terms text LastEnd taken left value held byte at inside = absurd (false≢true inside)
course_data terms text Over taken left value held byte at inside = absurd (false≢true inside)
course_data terms text (Refused fault) taken left value held byte at inside = tt

course_as : (terms : Terms) (text : List ℕ) (r : Reading) (byte : ℕ) (inside : Bool) → Course terms text r → Reads terms r → is_data r.place ≡ inside → Course terms (text ++ byte ∷ []) (after_byte terms r byte)
unfolding byte_read data_read
course_as terms text r byte true course reads is =
    subst (Course terms (text ++ byte ∷ [])) (sym (after_data terms r byte reads is))
    (course_settled terms (text ++ byte ∷ []) _ (course_data terms text r.place r.taken r.left r.value r.held byte course is))
course_as terms text r byte false course reads is =
    subst (Course terms (text ++ byte ∷ [])) (sym (after_other terms r byte reads is))
    (course_settled terms (text ++ byte ∷ []) _
    (from_place terms text r.place r.taken r.left r.value r.held byte course is (omega (arith, reads_below terms r reads))))

course_after : (terms : Terms) (text : List ℕ) (r : Reading) (byte : ℕ) → Course terms text r → Reads terms r → Course terms (text ++ byte ∷ []) (after_byte terms r byte)
course_after terms text r byte course reads = course_as terms text r byte (is_data r.place) course reads refl

-- what has come is a part of a body, as far as it was taken
course_run : (terms : Terms) (text : List ℕ) (r : Reading) (bytes : List ℕ) → Course terms text r → Course terms (text ++ take ((run terms r bytes).taken - r.taken) bytes) (run terms r bytes)
course_run terms text r [] course =
    let none : r.taken - r.taken ≡ 0 = omega arith in
    subst (λ (t : List ℕ). Course terms t r) (sym (append-nil text) ∙ ap (λ n. text ++ take n []) (sym none)) course
course_run terms text r (byte ∷ bytes) course =
    ⊎_elim
    (λ (h : is_closed terms.encoded r.place r.taken ≡ true).
    let same = run_closed terms r (byte ∷ bytes) h in
    let none : (run terms r (byte ∷ bytes)).taken - r.taken ≡ 0 =
    ap (λ (q : Reading). q.taken - r.taken) same ∙ (omega arith) in
    subst (λ (q : Reading). Course terms (text ++ take ((run terms r (byte ∷ bytes)).taken - r.taken) (byte ∷ bytes)) q) (sym same)
    (subst (λ (t : List ℕ). Course terms t r) (sym (append-nil text) ∙ ap (λ n. text ++ take n (byte ∷ bytes)) (sym none)) course))
    (λ (h : is_closed terms.encoded r.place r.taken ≡ false).
    let next = after_byte terms r byte in
    let first = taken_after terms r byte h in
    let rest = run_bounds terms next bytes in
    let count : (run terms next bytes).taken - r.taken ≡ suc ((run terms next bytes).taken - next.taken) = omega (arith, first, rest.0) in
    subst (λ (t : List ℕ). Course terms t (run terms next bytes))
    (append_assoc text (byte ∷ []) (take ((run terms next bytes).taken - next.taken) bytes) ∙ ap (λ n. text ++ take n (byte ∷ bytes)) (sym count))
    (course_run terms (text ++ byte ∷ []) next bytes (course_after terms text r byte course h)))
    (cases_Bool (is_closed terms.encoded r.place r.taken))

course_started : (terms : Terms) → Course terms [] (started terms)
course_started terms =
    course_settled terms [] _
    (record {
      chunks = [];
      tail = [];
      front = record { each = tt; written = refl; count = refl; given = refl };
      count = refl;
      most = omega arith;
      spelled = refl;
      number = refl;
      empty = refl;
      sum = omega arith;
    })

-- what was taken of the bytes, once all of Content-Length was
pub course_bytes : (terms : Terms) (bytes : List ℕ) → Course terms (take ((run terms (started terms) bytes).taken - (started terms).taken) bytes) (run terms (started terms) bytes)
course_bytes terms bytes = course_run terms [] (started terms) bytes (course_started terms)

pub over_body : (terms : Terms) (text : List ℕ) (taken left : ℕ) (value held : List ℕ) → At terms text taken left value held Over → IsBody terms text held value
over_body terms text taken left value held at =
    let close = at.0 in
    let e = close.at in
    let t = e.at in
    record {
      chunks = t.chunks;
      last = t.last;
      name = e.name;
      gap = close.gap;
      each = t.front.each;
      ends = t.ends;
      named = e.named;
      valued = e.valued;
      parted = close.parted;
      written = t.front.written;
      joined = t.front.given ∙ append-nil _;
      decoded = omega (arith, t.sum, at.1);
      encoded = sym t.front.count ∙ at.2;
    }

abbrev data_in : Verdict → List ℕ
data_in (Accepted held value) = held
data_in (verdicts.Refused place code) = []
data_in (Open held) = []

abbrev value_in : Verdict → List ℕ
value_in (Accepted held value) = value
value_in (verdicts.Refused place code) = []
value_in (Open held) = []

-- what is accepted is over, with this data and this value
accepted_at : (place : Place) (taken : ℕ) (value held other worth : List ℕ) → verdict_at place taken value held ≡ Accepted other worth → (place ≡ Over) × (held ≡ other) × (value ≡ worth)
accepted_at Over taken value held other worth is = (refl, ap data_in is, ap value_in is)
accepted_at (Size digits) taken value held other worth is = absurd (false≢true (ap accepts is))
accepted_at (SizeEnd size) taken value held other worth is = absurd (false≢true (ap accepts is))
accepted_at (Data left) taken value held other worth is = absurd (false≢true (ap accepts is))
accepted_at DataEnd taken value held other worth is = absurd (false≢true (ap accepts is))
accepted_at (Name matched) taken value held other worth is = absurd (false≢true (ap accepts is))
accepted_at Value taken value held other worth is = absurd (false≢true (ap accepts is))
accepted_at Gap taken value held other worth is = absurd (false≢true (ap accepts is))
accepted_at ValueEnd taken value held other worth is = absurd (false≢true (ap accepts is))
accepted_at Last taken value held other worth is = absurd (false≢true (ap accepts is))
accepted_at LastEnd taken value held other worth is = absurd (false≢true (ap accepts is))
accepted_at (Refused fault) taken value held other worth is = absurd (false≢true (ap accepts is))

-- the end of the input changes nothing of what is over
over_same : (terms : Terms) (bytes : List ℕ) (ended : Bool) → (reading_of terms bytes ended).place ≡ Over → reading_of terms bytes ended ≡ run terms (started terms) bytes
over_same terms bytes false is = refl
over_same terms bytes true is =
    let r = run terms (started terms) bytes in
    ⊎_elim
    (λ (h : is_settled r.place ≡ true). stopped_settled r h)
    (λ (h : is_settled r.place ≡ false).
    absurd (false≢true (ap is_over (ap (λ (q : Reading). q.place) (sym (stopped_going r h)) ∙ is))))
    (cases_Bool (is_settled r.place))
  where
    stopped_settled : (r : Reading) → is_settled r.place ≡ true → stopped r ≡ r
    stopped_settled r h = rw h refl

    stopped_going : (r : Reading) → is_settled r.place ≡ false → stopped r ≡ refused r Incomplete
    stopped_going r h = rw h refl

pub accepted_body : (terms : Terms) (bytes : List ℕ) (ended : Bool) (held value : List ℕ) → verdict_of terms bytes ended ≡ Accepted held value → (terms.encoded ≤ length bytes) × IsBody terms (take terms.encoded bytes) held value
accepted_body terms bytes ended held value is =
    let q = reading_of terms bytes ended in
    let r = run terms (started terms) bytes in
    let end = accepted_at q.place q.taken q.value q.held held value is in
    let same : q ≡ r = over_same terms bytes ended end.0 in
    let over : r.place ≡ Over = ap (λ (x : Reading). x.place) (sym same) ∙ end.0 in
    let text = take (r.taken - (started terms).taken) bytes in
    let at : At terms text r.taken r.left r.value r.held Over = subst (At terms text r.taken r.left r.value r.held) over (course_bytes terms bytes) in
    let nothing : (started terms).taken ≡ 0 = taken_settled terms.encoded _ in
    let bounds = run_bounds terms (started terms) bytes in
    let count : r.taken - (started terms).taken ≡ terms.encoded = omega (arith, at.2, nothing) in (
      omega (arith, at.2, bounds.1, nothing),
      subst (λ (h : List ℕ). IsBody terms (take terms.encoded bytes) h value) (ap (λ (x : Reading). x.held) (sym same) ∙ end.1)
          (subst (λ (v : List ℕ). IsBody terms (take terms.encoded bytes) r.held v) (ap (λ (x : Reading). x.value) (sym same) ∙ end.2)
          (subst (λ (n : ℕ). IsBody terms (take n bytes) r.held r.value) count
          (over_body terms text r.taken r.left r.value r.held at))),
    )
