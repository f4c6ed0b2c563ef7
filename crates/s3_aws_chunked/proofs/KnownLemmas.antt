-- What is known after some bytes: that the reader is inside a body, has refused, or is done; and the verdict.
use Rattle.std.proofs.Common.{◌≡◌, ℕ, suc, zero, ◌+◌, ◌<◌, ◌≤◌, ◌⊎◌, ⊎_elim, Bool, true, false, ◌&&◌, ◌==◌, nat_lt, List, [], ◌∷◌, ◌++◌, length, take, refl, sym, ap, subst, ◌∙◌, arith, append_assoc, inl, inr, lt-ltb, ltb-true, eq-eqb, eqb-true}
use Rattle.std.proofs.lemmas.Bool.{false≢true, cases_lt}
use Rattle.std.proofs.lemmas.List.{length_push, take_all}
use Rattle.s3_terms.specs.declared.code.Code.TheVariants.{IncompleteBody}
use Rattle.s3_aws_chunked.specs.Chunk.{Chunk, is_hex, first_line, chunks_text, data_of}
use Rattle.s3_aws_chunked.specs.Body.{IsBody}
use Rattle.s3_aws_chunked.specs.Verdict.{Terms, IsAccepted}
use Rattle.s3_aws_chunked.specs.Count.{Count, advanced}
use Rattle.s3_aws_chunked.specs.Phase.{read}
use Rattle.s3_aws_chunked.specs.Decoder.{Progress, code_of, is_settled, is_data, counted, moved, refused, settled, data_left}
use Rattle.s3_aws_chunked.specs.declared.place.Place.{Place}
use Rattle.s3_aws_chunked.specs.declared.phase.Fault.{Fault}
use Rattle.s3_aws_chunked.specs.declared.phase.Fault.TheVariants.{Incomplete}
use Rattle.s3_aws_chunked.specs.declared.phase.Phase.{Phase}
use Rattle.s3_aws_chunked.specs.declared.phase.Phase.TheVariants.{Size, Line, Data, Ending, Over, Refused}
use Rattle.s3_aws_chunked.proofs.FaultLemmas.{Silent, Found, mid_silent, mid_cut}
use Rattle.s3_aws_chunked.proofs.CourseLemmas.{At, Course}
use Rattle.s3_aws_chunked.proofs.OutcomeLemmas.{After, Outcome, Failing, Complete, course_mid, size_outcome}
use Rattle.s3_aws_chunked.proofs.LineLemmas.{line_outcome}
use Rattle.s3_aws_chunked.proofs.CloseLemmas.{data_outcome, ending_outcome}

-- the byte after some text, by where the reader stands
pub byte_at : (terms : Terms) (text : List ℕ) (place : Place) (current held : List ℕ) (byte : ℕ) (phase : Phase) → Course terms text place current held → place.phase ≡ phase → is_data phase ≡ false → length text + 1 ≤ terms.encoded → After terms text place current held byte (read phase byte)
unfolding read
byte_at terms text place current held byte (Size d) c is other within =
    size_outcome terms text place current held byte d c (subst (At terms place current held c.chunks c.tail) is c.at)
    (byte == 59 && nat_lt 0 d.0) (is_hex byte) (nat_lt d.0 8) refl refl refl
byte_at terms text place current held byte (Line count value) c is other within =
    line_outcome terms text place current held byte count value c (subst (At terms place current held c.chunks c.tail) is c.at)
    _ _ _ _ refl refl refl refl
byte_at terms text place current held byte (Data zero last) c is other within =
    data_outcome terms text place current held byte last c (subst (At terms place current held c.chunks c.tail) is c.at) (byte == 13) refl
byte_at terms text place current held byte (Data (suc left) last) c is other within =
    absurd (false≢true (sym other ∙ lt-ltb 0 (suc left) (omega arith)))
byte_at terms text place current held byte (Ending last) c is other within =
    ending_outcome terms text place current held byte last c (subst (At terms place current held c.chunks c.tail) is c.at) within (byte == 10) refl
byte_at terms text place current held byte Over c is other within = absurd (subst (At terms place current held c.chunks c.tail) is c.at)
byte_at terms text place current held byte (Refused fault) c is other within = absurd (subst (At terms place current held c.chunks c.tail) is c.at)

-- data of the chunk
pub data_at : (terms : Terms) (text : List ℕ) (place : Place) (current held : List ℕ) (byte : ℕ) (phase : Phase) → Course terms text place current held → place.phase ≡ phase → is_data phase ≡ true → Course terms (text ++ byte ∷ []) (moved (counted place 1) (data_left phase 1)) (current ++ byte ∷ []) (held ++ byte ∷ [])
data_at terms text place current held byte (Data left last) c is inside =
    let at = subst (At terms place current held c.chunks c.tail) is c.at in
    let some : 0 < left = ltb-true _ _ inside in
    let long : length (current ++ byte ∷ []) ≡ length current + 1 = length_push current byte in
    record {
      chunks = c.chunks;
      tail = c.tail ++ byte ∷ [];
      each = c.each;
      signed = c.signed;
      written = ap (λ t. t ++ byte ∷ []) c.written ∙ append_assoc (chunks_text c.chunks) c.tail (byte ∷ []);
      span = ap (λ (s : Count). advanced s 1) c.span ∙ ap (λ (n : ℕ). record { taken = n; whole = terms.encoded }) (sym (length_push text byte));
      chain = c.chain;
      digits = c.digits;
      at = record {
        size = at.size;
        form = at.form;
        long = omega (arith, long, at.long, some);
        ends = at.ends;
        written = ap (λ t. t ++ byte ∷ []) at.written ∙ append_assoc (first_line at.size place.signature) current (byte ∷ []);
        sum = at.sum;
        given = ap (λ t. t ++ byte ∷ []) at.given ∙ append_assoc (data_of c.chunks) current (byte ∷ []);
      };
    }
data_at terms text place current held byte (Size d) c is inside = absurd (false≢true inside)
data_at terms text place current held byte (Line count value) c is inside = absurd (false≢true inside)
data_at terms text place current held byte (Ending last) c is inside = absurd (false≢true inside)
data_at terms text place current held byte Over c is inside = absurd (false≢true inside)
data_at terms text place current held byte (Refused fault) c is inside = absurd (false≢true inside)

-- inside a body, and nothing wrong so far
pub record Going (terms : Terms) (text : List ℕ) (p : Progress) : Type 0 where
  pub course : Course terms text p.place p.current p.held
  pub below : length text < terms.encoded
  pub silent : (n : ℕ) → n ≤ length text → Silent terms (take n text)

-- refused, at the first place where a line applies
pub record Halted (terms : Terms) (text : List ℕ) (p : Progress) : Type 0 where
  pub fault : Fault
  pub phase : p.place.phase ≡ Refused fault
  pub within : p.place.span.taken ≤ terms.encoded
  pub come : p.place.span.taken ≤ length text
  pub found : Found terms (take p.place.span.taken text) (code_of fault)
  pub silent : (n : ℕ) → n < p.place.span.taken → Silent terms (take n text)

-- the whole body has come
pub record Completed (terms : Terms) (text : List ℕ) (p : Progress) : Type 0 where
  pub over : p.place.phase ≡ Over
  pub taken : p.place.span.taken ≡ terms.encoded
  pub accepted : IsAccepted terms text p.held
  pub silent : (n : ℕ) → n ≤ terms.encoded → Silent terms (take n text)

abbrev pub Known : Terms → List ℕ → Progress → Type 0
Known terms text p = Going terms text p ⊎ (Halted terms text p ⊎ Completed terms text p)

pub unsettled : (terms : Terms) (place : Place) (current held : List ℕ) (chunks : List Chunk) (tail : List ℕ) (phase : Phase) → At terms place current held chunks tail phase → is_settled phase ≡ false
unsettled terms place current held chunks tail (Size d) at = refl
unsettled terms place current held chunks tail (Line count value) at = refl
unsettled terms place current held chunks tail (Data left last) at = refl
unsettled terms place current held chunks tail (Ending last) at = refl
unsettled terms place current held chunks tail Over at = absurd at
unsettled terms place current held chunks tail (Refused fault) at = absurd at

-- what settling makes of a place
settled_shut : (place : Place) → is_settled place.phase ≡ true → settled place ≡ place
unfolding settled
settled_shut place h = rw h refl

settled_cut : (place : Place) → is_settled place.phase ≡ false → (place.span.taken == place.span.whole) ≡ true → settled place ≡ refused place Incomplete
unfolding settled
settled_cut place h k = rw (h, k) refl

settled_open : (place : Place) → is_settled place.phase ≡ false → (place.span.taken == place.span.whole) ≡ false → settled place ≡ place
unfolding settled
settled_open place h k = rw (h, k) refl

abbrev pub at_place : Place → List ℕ → List ℕ → Progress
at_place place current held = record { place = place; current = current; held = held }

abbrev pub Before : Terms → List ℕ → Type 0
Before terms text = (n : ℕ) → n < length text → Silent terms (take n text)

-- one more text
silent_all : (terms : Terms) (text : List ℕ) → Before terms text → Silent terms text → (n : ℕ) → n ≤ length text → Silent terms (take n text)
silent_all terms text before here n within =
    ⊎_elim
    (λ (less : n < length text). before n less)
    (λ (all : length text ≤ n). subst (Silent terms) (sym (take_all n text all)) here)
    (cases_lt n (length text))

pub course_known : (terms : Terms) (text : List ℕ) (place : Place) (current held : List ℕ) → Course terms text place current held → length text ≤ terms.encoded → Before terms text → (full : Bool) → (place.span.taken == place.span.whole) ≡ full → Known terms text (at_place (settled place) current held)
course_known terms text place current held c within before true h =
    let open' = unsettled terms place current held c.chunks c.tail place.phase c.at in
    let taken : place.span.taken ≡ length text = ap (λ (s : Count). s.taken) c.span in
    let whole : place.span.whole ≡ terms.encoded = ap (λ (s : Count). s.whole) c.span in
    let full : length text ≡ terms.encoded = sym taken ∙ eqb-true _ _ h ∙ whole in
    subst (λ (q : Place). Known terms text (at_place q current held)) (sym (settled_cut place open' h))
    (inr (inl (record {
      fault = Incomplete;
      phase = refl;
      within = omega (arith, taken, full);
      come = omega (arith, taken);
      found =
          subst (λ (t : List ℕ). Found terms t IncompleteBody) (sym (take_all place.span.taken text (omega (arith, taken))))
          (mid_cut terms text c.chunks c.tail (course_mid terms text place current held c) full);
      silent = λ n less. before n (omega (arith, less, taken));
    })))
course_known terms text place current held c within before false h =
    let open' = unsettled terms place current held c.chunks c.tail place.phase c.at in
    let taken : place.span.taken ≡ length text = ap (λ (s : Count). s.taken) c.span in
    let whole : place.span.whole ≡ terms.encoded = ap (λ (s : Count). s.whole) c.span in
    let below : length text < terms.encoded =
    ⊎_elim
    (λ (less : length text < terms.encoded). less)
    (λ (all : terms.encoded ≤ length text). absurd (false≢true (sym h ∙ eq-eqb _ _ (omega (arith, taken, whole, within, all)))))
    (cases_lt (length text) terms.encoded) in
    subst (λ (q : Place). Known terms text (at_place q current held)) (sym (settled_open place open' h))
    (inl (record {
      course = c;
      below = below;
      silent = silent_all terms text before (mid_silent terms text c.chunks c.tail (course_mid terms text place current held c) below);
    }))

failing_known : (terms : Terms) (text : List ℕ) (place : Place) (current held : List ℕ) → Failing terms text place → place.span ≡ record { taken = length text; whole = terms.encoded } → length text ≤ terms.encoded → Before terms text → Known terms text (at_place (settled place) current held)
failing_known terms text place current held f span within before =
    let taken : place.span.taken ≡ length text = ap (λ (s : Count). s.taken) span in
    subst (λ (q : Place). Known terms text (at_place q current held)) (sym (settled_shut place (ap is_settled f.phase)))
    (inr (inl (record {
      fault = f.fault;
      phase = f.phase;
      within = omega (arith, taken, within);
      come = omega (arith, taken);
      found = subst (λ (t : List ℕ). Found terms t (code_of f.fault)) (sym (take_all place.span.taken text (omega (arith, taken)))) f.found;
      silent = λ n less. before n (omega (arith, less, taken));
    })))

complete_known : (terms : Terms) (text : List ℕ) (place : Place) (current held : List ℕ) → Complete terms text place held → place.span ≡ record { taken = length text; whole = terms.encoded } → Before terms text → Known terms text (at_place (settled place) current held)
complete_known terms text place current held f span before =
    let taken : place.span.taken ≡ length text = ap (λ (s : Count). s.taken) span in
    subst (λ (q : Place). Known terms text (at_place q current held)) (sym (settled_shut place (ap is_settled f.over)))
    (inr (inr (record {
      over = f.over;
      taken = taken ∙ f.whole;
      accepted = record {
        come = omega (arith, f.whole);
        chunks = f.chunks;
        last = f.last;
        body = subst (λ (t : List ℕ). IsBody t f.chunks f.last) (sym (take_all terms.encoded text (omega (arith, f.whole)))) f.body;
        signed = f.signed;
        sum = f.sum;
        joined = f.joined;
      };
      silent = λ n below. silent_all terms text before f.silent n (omega (arith, below, f.whole));
    })))

pub outcome_known : (terms : Terms) (text : List ℕ) (place : Place) (current held : List ℕ) → Outcome terms text place current held → place.span ≡ record { taken = length text; whole = terms.encoded } → length text ≤ terms.encoded → Before terms text → Known terms text (at_place (settled place) current held)
outcome_known terms text place current held outcome span within before =
    ⊎_elim
    (λ (c : Course terms text place current held). course_known terms text place current held c within before (place.span.taken == place.span.whole) refl)
    (λ (ends : Failing terms text place ⊎ Complete terms text place held).
    ⊎_elim
    (λ (f : Failing terms text place). failing_known terms text place current held f span within before)
    (λ (f : Complete terms text place held). complete_known terms text place current held f span before)
    ends)
    outcome
