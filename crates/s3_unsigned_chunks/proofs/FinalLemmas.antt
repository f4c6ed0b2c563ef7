-- Verdicts are final, and stand at their place.
use Rattle.std.proofs.Common.{◌≡◌, ℕ, ◌-◌, ◌<◌, ◌≤◌, ⊎_elim, Bool, true, false, List, ◌++◌, length, take, min, refl, sym, ap, ◌∙◌, subst, arith, None}
use Rattle.std.proofs.lemmas.Bool.{false≢true, cases_Bool}
use Rattle.std.proofs.lemmas.Option.{none-some}
use Rattle.s3_terms.specs.declared.code.Code.{Code}
use Rattle.s3_terms.specs.declared.code.Code.TheVariants.{IncompleteBody}
use Rattle.s3_unsigned_chunks.specs.Reading.{Terms, Reading, code_at, is_settled, refused, reading_of, run, started, stopped}
use Rattle.s3_unsigned_chunks.specs.Verdict.{Verdict, Refused, Accepted, Open, accepts, verdict_at, verdict_in, verdict_of}
use Rattle.s3_unsigned_chunks.specs.Finality.{IsDecided}
use Rattle.s3_unsigned_chunks.specs.declared.place.Fault.TheVariants.{Incomplete}
use Rattle.s3_unsigned_chunks.specs.declared.place.Place.{Place}
use Rattle.s3_unsigned_chunks.specs.declared.place.Place.TheVariants as places
use Rattle.s3_unsigned_chunks.proofs.RunLemmas.{run-append, run_closed}
use Rattle.s3_unsigned_chunks.proofs.KeptLemmas.{kept_bytes, kept_started, run_bounds, run_front, run_min, settled_closed, taken_settled}

-- what says that something is decided is settled
decided_settled : (place : Place) (taken : ℕ) (value held : List ℕ) → IsDecided (verdict_at place taken value held) → is_settled place ≡ true
decided_settled places.Over taken value held is = refl
decided_settled (places.Refused fault) taken value held is = refl
decided_settled (places.Size digits) taken value held is = absurd is
decided_settled (places.SizeEnd size) taken value held is = absurd is
decided_settled (places.Data left) taken value held is = absurd is
decided_settled places.DataEnd taken value held is = absurd is
decided_settled (places.Name matched) taken value held is = absurd is
decided_settled places.Value taken value held is = absurd is
decided_settled places.Gap taken value held is = absurd is
decided_settled places.ValueEnd taken value held is = absurd is
decided_settled places.Last taken value held is = absurd is
decided_settled places.LastEnd taken value held is = absurd is

pub settled_decided : (place : Place) (taken : ℕ) (value held : List ℕ) → is_settled place ≡ true → IsDecided (verdict_at place taken value held)
settled_decided places.Over taken value held is = tt
settled_decided (places.Refused fault) taken value held is = tt
settled_decided (places.Size digits) taken value held is = absurd (false≢true is)
settled_decided (places.SizeEnd size) taken value held is = absurd (false≢true is)
settled_decided (places.Data left) taken value held is = absurd (false≢true is)
settled_decided places.DataEnd taken value held is = absurd (false≢true is)
settled_decided (places.Name matched) taken value held is = absurd (false≢true is)
settled_decided places.Value taken value held is = absurd (false≢true is)
settled_decided places.Gap taken value held is = absurd (false≢true is)
settled_decided places.ValueEnd taken value held is = absurd (false≢true is)
settled_decided places.Last taken value held is = absurd (false≢true is)
settled_decided places.LastEnd taken value held is = absurd (false≢true is)

pub open_place : (place : Place) (taken : ℕ) (value held data' : List ℕ) → verdict_at place taken value held ≡ Open data' → (is_settled place ≡ false) × (code_at place ≡ None)
open_place (places.Size digits) taken value held data' is = (refl, refl)
open_place (places.SizeEnd size) taken value held data' is = (refl, refl)
open_place (places.Data left) taken value held data' is = (refl, refl)
open_place places.DataEnd taken value held data' is = (refl, refl)
open_place (places.Name matched) taken value held data' is = (refl, refl)
open_place places.Value taken value held data' is = (refl, refl)
open_place places.Gap taken value held data' is = (refl, refl)
open_place places.ValueEnd taken value held data' is = (refl, refl)
open_place places.Last taken value held data' is = (refl, refl)
open_place places.LastEnd taken value held data' is = (refl, refl)
open_place places.Over taken value held data' is = absurd (subst IsDecided is tt)
open_place (places.Refused fault) taken value held data' is = absurd (subst IsDecided is tt)

-- the place that a verdict names
abbrev place_of : Verdict → ℕ
place_of (Refused place code) = place
place_of (Accepted held value) = 0
place_of (Open held) = 0

refused_place : (place : Place) (taken : ℕ) (value held : List ℕ) (at : ℕ) (code : Code) → verdict_at place taken value held ≡ Refused at code → (is_settled place ≡ true) × (taken ≡ at)
refused_place (places.Refused fault) taken value held at code is = (refl, ap place_of is)
refused_place places.Over taken value held at code is = absurd (false≢true (sym (ap accepts is)))
refused_place (places.Size digits) taken value held at code is = absurd (subst IsDecided (sym is) tt)
refused_place (places.SizeEnd size) taken value held at code is = absurd (subst IsDecided (sym is) tt)
refused_place (places.Data left) taken value held at code is = absurd (subst IsDecided (sym is) tt)
refused_place places.DataEnd taken value held at code is = absurd (subst IsDecided (sym is) tt)
refused_place (places.Name matched) taken value held at code is = absurd (subst IsDecided (sym is) tt)
refused_place places.Value taken value held at code is = absurd (subst IsDecided (sym is) tt)
refused_place places.Gap taken value held at code is = absurd (subst IsDecided (sym is) tt)
refused_place places.ValueEnd taken value held at code is = absurd (subst IsDecided (sym is) tt)
refused_place places.Last taken value held at code is = absurd (subst IsDecided (sym is) tt)
refused_place places.LastEnd taken value held at code is = absurd (subst IsDecided (sym is) tt)

-- the end of the input takes nothing
stopped_as : (r : Reading) (test : Bool) → is_settled r.place ≡ test → (stopped r).taken ≡ r.taken
stopped_as r true is = rw is refl
stopped_as r false is = rw is refl

stopped_settled : (r : Reading) (test : Bool) → is_settled r.place ≡ test → is_settled (stopped r).place ≡ true
stopped_settled r true is = rw is is
stopped_settled r false is = rw is refl

-- and changes nothing where something is decided
stopped_same : (r : Reading) → is_settled r.place ≡ true → stopped r ≡ r
stopped_same r is = rw is refl

pub nothing_taken : (terms : Terms) → (started terms).taken ≡ 0
nothing_taken terms = taken_settled terms.encoded _

same_reading : (terms : Terms) (bytes : List ℕ) (ended : Bool) → is_settled (run terms (started terms) bytes).place ≡ true → reading_of terms bytes ended ≡ run terms (started terms) bytes
same_reading terms bytes true is = stopped_same _ is
same_reading terms bytes false is = refl

pub verdicts_stay : (terms : Terms) (bytes more : List ℕ) (ended : Bool) → IsDecided (verdict_of terms bytes false) → verdict_of terms (bytes ++ more) ended ≡ verdict_of terms bytes false
verdicts_stay terms bytes more ended decided =
    let r = run terms (started terms) bytes in
    let is : is_settled r.place ≡ true = decided_settled r.place r.taken r.value r.held decided in
    let same : run terms (started terms) (bytes ++ more) ≡ r =
    run-append terms (started terms) bytes more ∙ run_closed terms r more (settled_closed terms r is) in
    let shut : is_settled (run terms (started terms) (bytes ++ more)).place ≡ true = ap (λ (q : Reading). is_settled q.place) same ∙ is in
    ap verdict_in (same_reading terms (bytes ++ more) ended shut ∙ same)

pub ends_decide : (terms : Terms) (bytes : List ℕ) → IsDecided (verdict_of terms bytes true)
ends_decide terms bytes =
    let r = run terms (started terms) bytes in
    let q = stopped r in
    settled_decided q.place q.taken q.value q.held (stopped_settled r (is_settled r.place) refl)

-- what is open has taken all
pub open_taken : (terms : Terms) (bytes held : List ℕ) → verdict_of terms bytes false ≡ Open held → ((run terms (started terms) bytes).taken ≡ length bytes) × (length bytes < terms.encoded)
open_taken terms bytes held is =
    let r = run terms (started terms) bytes in
    let open' = open_place r.place r.taken r.value r.held held is in
    let below = (kept_bytes terms bytes).going open'.0 in
    let counted = run_min terms (started terms) bytes (kept_started terms) open'.1 in
    let nothing = nothing_taken terms in
    (omega (arith, below, counted, nothing), omega (arith, below, counted, nothing))

pub open_short : (terms : Terms) (bytes held : List ℕ) → verdict_of terms bytes false ≡ Open held → length bytes < terms.encoded
open_short terms bytes held is = (open_taken terms bytes held is).1

stopped_open : (r : Reading) → is_settled r.place ≡ false → stopped r ≡ refused r Incomplete
stopped_open r is = rw is refl

pub open_incomplete : (terms : Terms) (bytes held : List ℕ) → verdict_of terms bytes false ≡ Open held → verdict_of terms bytes true ≡ Refused (length bytes) IncompleteBody
open_incomplete terms bytes held is =
    let r = run terms (started terms) bytes in
    let open' = open_place r.place r.taken r.value r.held held is in
    ap verdict_in (stopped_open r open'.0)
    ∙ ap (λ n. Refused n IncompleteBody) (open_taken terms bytes held is).0

taken_within : (terms : Terms) (bytes : List ℕ) → (run terms (started terms) bytes).taken ≤ length bytes
taken_within terms bytes =
    let bounds = run_bounds terms (started terms) bytes in
    let nothing = nothing_taken terms in
    omega (arith, bounds.1, nothing)

pub reading_within : (terms : Terms) (bytes : List ℕ) (ended : Bool) → (reading_of terms bytes ended).taken ≤ length bytes
reading_within terms bytes true =
    let r = run terms (started terms) bytes in
    rw (stopped_as r (is_settled r.place) refl) (taken_within terms bytes)
reading_within terms bytes false = taken_within terms bytes

pub refused_within : (terms : Terms) (bytes : List ℕ) (ended : Bool) (place : ℕ) (code : Code) → verdict_of terms bytes ended ≡ Refused place code → place ≤ length bytes
refused_within terms bytes ended place code is =
    let r = reading_of terms bytes ended in
    let at = refused_place r.place r.taken r.value r.held place code is in
    rw (← at.1) (reading_within terms bytes ended)

pub refused_front : (terms : Terms) (bytes : List ℕ) (place : ℕ) (code : Code) → verdict_of terms bytes false ≡ Refused place code → (place ≤ length bytes) × (verdict_of terms (take place bytes) false ≡ Refused place code)
refused_front terms bytes place code is =
    let r = run terms (started terms) bytes in
    let at = refused_place r.place r.taken r.value r.held place code is in
    let nothing = nothing_taken terms in
    let count : place ≡ r.taken - (started terms).taken = omega (arith, at.1, nothing) in (
      refused_within terms bytes false place code is,
      ap verdict_in (ap (λ n. run terms (started terms) (take n bytes)) count ∙ run_front terms (started terms) bytes) ∙ is,
    )

-- what refuses nothing has taken all up to Content-Length
run_counts : (terms : Terms) (bytes : List ℕ) → code_at (run terms (started terms) bytes).place ≡ None → (run terms (started terms) bytes).taken ≡ min terms.encoded (length bytes)
run_counts terms bytes none =
    let counted = run_min terms (started terms) bytes (kept_started terms) none in
    let nothing = nothing_taken terms in
    omega (arith, counted, nothing)

pub reading_counts : (terms : Terms) (bytes : List ℕ) (ended : Bool) → code_at (reading_of terms bytes ended).place ≡ None → (reading_of terms bytes ended).taken ≡ min terms.encoded (length bytes)
reading_counts terms bytes false none = run_counts terms bytes none
reading_counts terms bytes true none =
    let r = run terms (started terms) bytes in
    ⊎_elim
    (λ (is : is_settled r.place ≡ true).
    let same = stopped_same r is in
    rw same (run_counts terms bytes (ap (λ (q : Reading). code_at q.place) (sym same) ∙ none)))
    (λ (open' : is_settled r.place ≡ false).
    absurd (none-some _ (sym none ∙ ap (λ (q : Reading). code_at q.place) (stopped_open r open'))))
    (cases_Bool (is_settled r.place))
