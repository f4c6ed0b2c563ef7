-- Verdicts on bodies are final, there is one for all bytes, and no second one.
use Rattle.std.proofs.Common.{◌≡◌, ℕ, ◌<◌, ◌≤◌, Bool, true, false, List, [], ◌∷◌, ◌++◌, length, take, drop, refl, sym, ap, subst, ◌∙◌, arith, inl, inr}
use Rattle.std.proofs.lemmas.Bool.{false≢true, cases_lt}
use Rattle.std.proofs.lemmas.List.{append-nil, length-append, length-take-le, take-append-drop, take-append-le}
use Rattle.s3_terms.specs.declared.code.Code.{Code}
use Rattle.s3_aws_chunked.specs.Chunk.{Chunk, data_of}
use Rattle.s3_aws_chunked.specs.Body.{IsBody}
use Rattle.s3_aws_chunked.specs.Verdict.{Terms, FaultAt, FirstLine, IsRefused, IsUnrefused, IsAccepted, Verdict, Accepted, Open, Refused, Judges, table}
use Rattle.s3_aws_chunked.specs.Finality.{DecidesAs, IsDecided}
use Rattle.s3_aws_chunked.specs.Decoder.{Progress, is_settled, progress_of, run, started, stopped}
use Rattle.s3_aws_chunked.specs.declared.phase.Phase.{Phase}
use Rattle.s3_aws_chunked.specs.declared.phase.Phase.TheVariants as phases
use Rattle.s3_aws_chunked.specs.Reader.{verdict_at}
use Rattle.s3_aws_chunked.proofs.TextLemmas.{parse_one}
use Rattle.s3_aws_chunked.proofs.ParseLemmas.{are_chunks, chunks_push, data_push, partial_none, text_push}
use Rattle.s3_aws_chunked.proofs.JudgeLemmas.{progress_judges}

-- ---- verdicts stay

-- a line that applies does so whether or not the input has ended, but for that of the end
line_moves : (terms : Terms) (text : List ℕ) (ends other : Type 0) (code : Code) → (ends × (length text < terms.encoded) → ⊥)
    → FirstLine (table terms text ends) code → FirstLine (table terms text other) code
line_moves terms text ends other code never (inl x) = inl x
line_moves terms text ends other code never (inr (a, inl x)) = inr (a, inl x)
line_moves terms text ends other code never (inr (a, inr (b, inl x))) = inr (a, inr (b, inl x))
line_moves terms text ends other code never (inr (a, inr (b, inr (c, inl x)))) = inr (a, inr (b, inr (c, inl x)))
line_moves terms text ends other code never (inr (a, inr (b, inr (c, inr (d, inl x))))) = inr (a, inr (b, inr (c, inr (d, inl x))))
line_moves terms text ends other code never (inr (a, inr (b, inr (c, inr (d, inr (e, inl x)))))) = inr (a, inr (b, inr (c, inr (d, inr (e, inl x)))))
line_moves terms text ends other code never (inr (a, inr (b, inr (c, inr (d, inr (e, inr (f, inl x))))))) = absurd (never x.0)
line_moves terms text ends other code never (inr (a, inr (b, inr (c, inr (d, inr (e, inr (f, inr (g, x)))))))) = absurd x

-- a fault of the bytes is one of the bytes with others behind them, and the other way round
fault_moves : (terms : Terms) (bytes more : List ℕ) (ended : Bool) (place : ℕ) (code : Code) → place ≤ length bytes
    → FaultAt terms bytes false place code → FaultAt terms (bytes ++ more) ended place code
fault_moves terms bytes more ended place code come fault =
    let same = take-append-le place bytes more come in
    rw same (line_moves terms (take place bytes) ((false ≡ true) × (length bytes ≡ place)) ((ended ≡ true) × (length (bytes ++ more) ≡ place)) code
    (λ x. false≢true x.0.0) fault)

fault_back : (terms : Terms) (bytes more : List ℕ) (ended : Bool) (place : ℕ) (code : Code) → place ≤ length bytes
    → ((ended ≡ true) × (length (bytes ++ more) ≡ place) × (place < terms.encoded) → ⊥)
    → FaultAt terms (bytes ++ more) ended place code → FaultAt terms bytes false place code
fault_back terms bytes more ended place code come never fault =
    let same = take-append-le place bytes more come in
    let long : length (take place bytes) ≡ place = length-take-le place bytes come in
    line_moves terms (take place bytes) ((ended ≡ true) × (length (bytes ++ more) ≡ place)) ((false ≡ true) × (length bytes ≡ place)) code
    (λ x. never (x.0.0, x.0.1, omega (arith, long, x.1)))
    (rw same at fault)

refused_stays : (terms : Terms) (bytes more : List ℕ) (ended : Bool) (place : ℕ) (code : Code) → IsRefused terms bytes false place code
    → IsRefused terms (bytes ++ more) ended place code
refused_stays terms bytes more ended place code r = record {
  within = r.within;
  come = omega (arith, r.come, length-append bytes more);
  fault = fault_moves terms bytes more ended place code r.come r.fault;
  least = λ earlier other less fault.
      r.least earlier other less
      (fault_back terms bytes more ended earlier other (omega (arith, less, r.come))
      (λ x. omega (arith, x.1, less, r.come, length-append bytes more))
      fault);
}

unrefused_stays : (terms : Terms) (bytes more : List ℕ) (ended : Bool) → terms.encoded ≤ length bytes → IsUnrefused terms bytes false
    → IsUnrefused terms (bytes ++ more) ended
unrefused_stays terms bytes more ended come none place code r =
    none place code (record {
      within = r.within;
      come = omega (arith, r.within, come);
      fault =
          fault_back terms bytes more ended place code (omega (arith, r.within, come))
          (λ x. omega (arith, x.1, x.2, come, length-append bytes more))
          r.fault;
      least = λ earlier other less fault.
          r.least earlier other less (fault_moves terms bytes more ended earlier other (omega (arith, less, r.within, come)) fault);
    })

accepted_stays : (terms : Terms) (bytes more held : List ℕ) → IsAccepted terms bytes held → IsAccepted terms (bytes ++ more) held
accepted_stays terms bytes more held a = record {
  come = omega (arith, a.come, length-append bytes more);
  chunks = a.chunks;
  last = a.last;
  body = subst (λ (t : List ℕ). IsBody t a.chunks a.last) (sym (take-append-le terms.encoded bytes more a.come)) a.body;
  signed = a.signed;
  sum = a.sum;
  joined = a.joined;
}

pub verdicts_stay : (terms : Terms) (bytes more : List ℕ) (ended : Bool) (verdict : Verdict) → Judges terms bytes false verdict → IsDecided verdict
    → Judges terms (bytes ++ more) ended verdict
verdicts_stay terms bytes more ended (Refused place code) judged is = refused_stays terms bytes more ended place code judged
verdicts_stay terms bytes more ended (Accepted held) judged is =
    (unrefused_stays terms bytes more ended judged.1.come judged.0, accepted_stays terms bytes more held judged.1)
verdicts_stay terms bytes more ended (Open held) judged is = absurd is

-- ---- refusals stand at their places

pub refused_front : (terms : Terms) (bytes : List ℕ) (place : ℕ) (code : Code) → IsRefused terms bytes false place code
    → (place ≤ length bytes) × IsRefused terms (take place bytes) false place code
refused_front terms bytes place code r =
    let front = take place bytes in
    let rest = drop place bytes in
    let whole : front ++ rest ≡ bytes = take-append-drop place bytes in
    let long : length front ≡ place = length-take-le place bytes r.come in (
      r.come,
      record {
        within = r.within;
        come = omega (arith, long);
        fault =
            fault_back terms front rest false place code (omega (arith, long)) (λ x. false≢true x.0)
            (subst (λ (all : List ℕ). FaultAt terms all false place code) (sym whole) r.fault);
        least = λ earlier other less fault.
            r.least earlier other less
            (subst (λ (all : List ℕ). FaultAt terms all false earlier other) whole
            (fault_moves terms front rest false earlier other (omega (arith, long, less)) fault));
      },
    )

-- ---- verdicts are one

-- one line is the first that applies
line_one : (lines : List (Type 0 × Code)) (one other : Code) → FirstLine lines one → FirstLine lines other → one ≡ other
line_one [] one other x y = absurd x
line_one (line ∷ lines) one other (inl x) (inl y) = x.1 ∙ sym y.1
line_one (line ∷ lines) one other (inl x) (inr y) = absurd (y.0 x.0)
line_one (line ∷ lines) one other (inr x) (inl y) = absurd (x.0 y.0)
line_one (line ∷ lines) one other (inr x) (inr y) = line_one lines one other x.1 y.1

refused_one : (terms : Terms) (bytes : List ℕ) (ended : Bool) (place at : ℕ) (code other : Code) → IsRefused terms bytes ended place code
    → IsRefused terms bytes ended at other → (place ≡ at) × (code ≡ other)
refused_one terms bytes ended place at code other r s =
    let same : place ≡ at = elim (cases_lt place at) [
      | inl less ↦ absurd (s.least place code less r.fault)
      | inr le ↦ elim (cases_lt at place) [
        | inl less ↦ absurd (r.least at other less s.fault)
        | inr ge ↦ omega (arith, le, ge)
      ]
    ] in
    (same, line_one (table terms (take at bytes) ((ended ≡ true) × (length bytes ≡ at))) code other (rw same at r.fault) s.fault)

-- one text is one body
body_one : (text : List ℕ) (xs ys : List Chunk) (x y : Chunk) → IsBody text xs x → IsBody text ys y → data_of xs ≡ data_of ys
body_one text xs ys x y a b =
    let whole = sym (text_push xs x) ∙ sym a.written ∙ b.written ∙ text_push ys y in
    let same = (parse_one (xs ++ x ∷ []) (ys ++ y ∷ []) [] [] (chunks_push xs x (are_chunks xs a.each) a.form) (chunks_push ys y (are_chunks ys b.each) b.form) partial_none partial_none whole).0 in
    sym (ap (λ (d : List ℕ). data_of xs ++ d) a.empty ∙ append-nil (data_of xs))
    ∙ sym (data_push xs x) ∙ ap data_of same ∙ data_push ys y
    ∙ (ap (λ (d : List ℕ). data_of ys ++ d) b.empty ∙ append-nil (data_of ys))

pub verdicts_one : (terms : Terms) (bytes : List ℕ) (ended : Bool) (one other : Verdict) → Judges terms bytes ended one → Judges terms bytes ended other
    → DecidesAs one other
verdicts_one terms bytes ended (Refused place code) (Refused at other) r s = refused_one terms bytes ended place at code other r s
verdicts_one terms bytes ended (Refused place code) (Accepted held) r s = s.0 place code r
verdicts_one terms bytes ended (Refused place code) (Open held) r s = s.0 place code r
verdicts_one terms bytes ended (Accepted held) (Refused place code) r s = r.0 place code s
verdicts_one terms bytes ended (Accepted held) (Accepted other) r s =
    r.1.joined ∙ body_one (take terms.encoded bytes) r.1.chunks s.1.chunks r.1.last s.1.last r.1.body s.1.body ∙ sym s.1.joined
verdicts_one terms bytes ended (Accepted held) (Open other) r s = s.1 held r.1
verdicts_one terms bytes ended (Open held) (Refused place code) r s = r.0 place code s
verdicts_one terms bytes ended (Open held) (Accepted other) r s = r.1 other s.1
verdicts_one terms bytes ended (Open held) (Open other) r s = tt

-- ---- verdicts exist

pub verdicts_exist : (terms : Terms) (bytes : List ℕ) (ended : Bool) → (verdict : Verdict) × Judges terms bytes ended verdict
verdicts_exist terms bytes ended = (
  verdict_at (progress_of terms bytes ended).place.phase (progress_of terms bytes ended).place.span.taken (progress_of terms bytes ended).held,
  progress_judges terms bytes ended,
)

-- ---- the end of the input decides

-- where the input has stopped, the decoder has refused or is over
phase_decides : (phase : Phase) (taken : ℕ) (held : List ℕ) → is_settled phase ≡ true → IsDecided (verdict_at phase taken held)
phase_decides (phases.Refused fault) taken held is = tt
phase_decides phases.Over taken held is = tt
phase_decides (phases.Size digits) taken held is = absurd (cc)
phase_decides (phases.Line place size) taken held is = absurd (cc)
phase_decides (phases.Data left last) taken held is = absurd (cc)
phase_decides (phases.Ending last) taken held is = absurd (cc)

stop_decides : (p : Progress) (settled : Bool) → is_settled p.place.phase ≡ settled
    → let after = stopped p in IsDecided (verdict_at after.place.phase after.place.span.taken after.held)
stop_decides p true is = rw is (phase_decides p.place.phase p.place.span.taken p.held is)
stop_decides p false is = rw is tt

same_decided : (one other : Verdict) → DecidesAs one other → IsDecided one → IsDecided other
same_decided (Refused place code) (Refused at other) same is = tt
same_decided (Accepted held) (Accepted other) same is = tt
same_decided (Refused place code) (Accepted other) same is = tt
same_decided (Accepted held) (Refused at other) same is = tt
same_decided (Refused place code) (Open other) same is = absurd same
same_decided (Accepted held) (Open other) same is = absurd same
same_decided (Open held) other same is = absurd is

pub ends_decide : (terms : Terms) (bytes : List ℕ) (verdict : Verdict) → Judges terms bytes true verdict → IsDecided verdict
unfolding verdicts_exist
ends_decide terms bytes verdict judged =
    let known = verdicts_exist terms bytes true in
    let decided = stop_decides (run (started terms) bytes) (is_settled (run (started terms) bytes).place.phase) refl in
    same_decided known.0 verdict (verdicts_one terms bytes true known.0 verdict known.1 judged) decided
