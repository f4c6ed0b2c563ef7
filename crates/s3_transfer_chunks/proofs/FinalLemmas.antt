-- Verdicts are final, and stand at their place.
use Rattle.std.proofs.Common.{◌≡◌, ℕ, ◌<◌, ◌≤◌, Bool, true, false, List, ◌++◌, length, take, drop, refl, sym, ap, ◌∙◌, subst, arith}
use Rattle.std.proofs.lemmas.Bool.{false≢true}
use Rattle.std.proofs.lemmas.List.{length-take-le, take-append-drop}
use Rattle.s3_terms.specs.declared.code.Code.{Code}
use Rattle.s3_terms.specs.declared.code.Code.TheVariants.{IncompleteBody}
use Rattle.s3_transfer_chunks.specs.Reading.{Reading, is_settled, refused, reading_of, run, started, stopped, taken_in}
use Rattle.s3_transfer_chunks.specs.Verdict.{Verdict, Refused, Accepted, Open, verdict_at, verdict_in, verdict_of}
use Rattle.s3_transfer_chunks.specs.Finality.{IsDecided}
use Rattle.s3_transfer_chunks.specs.declared.place.Fault.TheVariants.{Incomplete}
use Rattle.s3_transfer_chunks.specs.declared.place.Place.{Place}
use Rattle.s3_transfer_chunks.specs.declared.place.Place.TheVariants as places
use Rattle.s3_transfer_chunks.proofs.RunLemmas.{count-append, count_all, count_bound, count_front, count_settled, run-append, run_front, run_settled}

-- what says that something is decided is settled
pub decided_settled : (place : Place) (taken : ℕ) (held : List ℕ) → IsDecided (verdict_at place taken held) → is_settled place ≡ true
decided_settled places.Over taken held is = refl
decided_settled (places.Refused fault) taken held is = refl
decided_settled (places.Size digits) taken held is = absurd is
decided_settled (places.Line size tail) taken held is = absurd is
decided_settled (places.Data left) taken held is = absurd is
decided_settled places.DataEnd taken held is = absurd is
decided_settled places.Last taken held is = absurd is
decided_settled places.LastEnd taken held is = absurd is

pub settled_decided : (place : Place) (taken : ℕ) (held : List ℕ) → is_settled place ≡ true → IsDecided (verdict_at place taken held)
settled_decided places.Over taken held is = tt
settled_decided (places.Refused fault) taken held is = tt
settled_decided (places.Size digits) taken held is = absurd (false≢true is)
settled_decided (places.Line size tail) taken held is = absurd (false≢true is)
settled_decided (places.Data left) taken held is = absurd (false≢true is)
settled_decided places.DataEnd taken held is = absurd (false≢true is)
settled_decided places.Last taken held is = absurd (false≢true is)
settled_decided places.LastEnd taken held is = absurd (false≢true is)

pub open_place : (place : Place) (taken : ℕ) (held data' : List ℕ) → verdict_at place taken held ≡ Open data' → is_settled place ≡ false
open_place (places.Size digits) taken held data' is = refl
open_place (places.Line size tail) taken held data' is = refl
open_place (places.Data left) taken held data' is = refl
open_place places.DataEnd taken held data' is = refl
open_place places.Last taken held data' is = refl
open_place places.LastEnd taken held data' is = refl
open_place places.Over taken held data' is = absurd (subst IsDecided is tt)
open_place (places.Refused fault) taken held data' is = absurd (subst IsDecided is tt)

-- the place that a verdict names
abbrev place_of : Verdict → ℕ
place_of (Refused place code) = place
place_of (Accepted place held) = place
place_of (Open held) = 0

decided_place : (place : Place) (taken : ℕ) (held : List ℕ) → is_settled place ≡ true → place_of (verdict_at place taken held) ≡ taken
decided_place places.Over taken held is = refl
decided_place (places.Refused fault) taken held is = refl
decided_place (places.Size digits) taken held is = absurd (false≢true is)
decided_place (places.Line size tail) taken held is = absurd (false≢true is)
decided_place (places.Data left) taken held is = absurd (false≢true is)
decided_place places.DataEnd taken held is = absurd (false≢true is)
decided_place places.Last taken held is = absurd (false≢true is)
decided_place places.LastEnd taken held is = absurd (false≢true is)

-- the end of the input decides, and changes nothing of what is decided
stopped_settled : (r : Reading) (test : Bool) → is_settled r.place ≡ test → is_settled (stopped r).place ≡ true
stopped_settled r true is = rw is is
stopped_settled r false is = rw is refl

stopped_same : (r : Reading) → is_settled r.place ≡ true → stopped r ≡ r
stopped_same r is = rw is refl

stopped_open : (r : Reading) → is_settled r.place ≡ false → stopped r ≡ refused r Incomplete
stopped_open r is = rw is refl

-- what is settled is the same at the end of the input
pub same_reading : (limit : ℕ) (bytes : List ℕ) (ended : Bool) → is_settled (run (started limit) bytes).place ≡ true → reading_of limit bytes ended ≡ run (started limit) bytes
same_reading limit bytes true is = stopped_same (run (started limit) bytes) is
same_reading limit bytes false is = refl

pub decided_run : (limit : ℕ) (bytes : List ℕ) → IsDecided (verdict_of limit bytes false) → is_settled (run (started limit) bytes).place ≡ true
decided_run limit bytes decided =
    let r = run (started limit) bytes in
    decided_settled r.place (taken_in limit bytes) r.held decided

pub no_more_taken : (limit : ℕ) (bytes more : List ℕ) → IsDecided (verdict_of limit bytes false) → taken_in limit (bytes ++ more) ≡ taken_in limit bytes
no_more_taken limit bytes more decided =
    let none = count_settled (run (started limit) bytes) more (decided_run limit bytes decided) in
    let sum = count-append (started limit) bytes more in
    omega (arith, none, sum)

pub verdicts_stay : (limit : ℕ) (bytes more : List ℕ) (ended : Bool) → IsDecided (verdict_of limit bytes false) → verdict_of limit (bytes ++ more) ended ≡ verdict_of limit bytes false
verdicts_stay limit bytes more ended decided =
    let r = run (started limit) bytes in
    let is = decided_run limit bytes decided in
    let same : run (started limit) (bytes ++ more) ≡ r = run-append (started limit) bytes more ∙ run_settled r more is in
    let shut : is_settled (run (started limit) (bytes ++ more)).place ≡ true = ap (λ (q : Reading). is_settled q.place) same ∙ is in
    ap (λ (q : Reading). verdict_in q (taken_in limit (bytes ++ more))) (same_reading limit (bytes ++ more) ended shut ∙ same)
    ∙ ap (verdict_in r) (no_more_taken limit bytes more decided)

pub ends_decide : (limit : ℕ) (bytes : List ℕ) → IsDecided (verdict_of limit bytes true)
ends_decide limit bytes =
    let r = run (started limit) bytes in
    let q = stopped r in
    settled_decided q.place (taken_in limit bytes) q.held (stopped_settled r (is_settled r.place) refl)

-- what is open has taken all
pub open_taken : (limit : ℕ) (bytes held : List ℕ) → verdict_of limit bytes false ≡ Open held → taken_in limit bytes ≡ length bytes
open_taken limit bytes held is =
    let r = run (started limit) bytes in
    count_all (started limit) bytes (open_place r.place (taken_in limit bytes) r.held held is)

pub open_incomplete : (limit : ℕ) (bytes held : List ℕ) → verdict_of limit bytes false ≡ Open held → verdict_of limit bytes true ≡ Refused (length bytes) IncompleteBody
open_incomplete limit bytes held is =
    let r = run (started limit) bytes in
    ap (λ (q : Reading). verdict_in q (taken_in limit bytes)) (stopped_open r (open_place r.place (taken_in limit bytes) r.held held is))
    ∙ ap (λ n. Refused n IncompleteBody) (open_taken limit bytes held is)

-- what is refused is refused at the place up to which bytes were taken
pub refused_place : (limit : ℕ) (bytes : List ℕ) (ended : Bool) (place : ℕ) (code : Code) → verdict_of limit bytes ended ≡ Refused place code → taken_in limit bytes ≡ place
refused_place limit bytes ended place code is =
    let q = reading_of limit bytes ended in
    let shut = decided_settled q.place (taken_in limit bytes) q.held (subst IsDecided (sym is) tt) in
    sym (decided_place q.place (taken_in limit bytes) q.held shut) ∙ ap place_of is

pub refused_within : (limit : ℕ) (bytes : List ℕ) (ended : Bool) (place : ℕ) (code : Code) → verdict_of limit bytes ended ≡ Refused place code → place ≤ length bytes
refused_within limit bytes ended place code is =
    let at = refused_place limit bytes ended place code is in
    let bound = count_bound (started limit) bytes in
    omega (arith, at, bound)

-- the bytes up to the place say the same
pub front_same : (limit : ℕ) (bytes : List ℕ) → verdict_of limit (take (taken_in limit bytes) bytes) false ≡ verdict_of limit bytes false
front_same limit bytes =
    let front = take (taken_in limit bytes) bytes in
    ap (λ (q : Reading). verdict_in q (taken_in limit front)) (run_front (started limit) bytes)
    ∙ ap (verdict_in (run (started limit) bytes)) (count_front (started limit) bytes)

pub refused_front : (limit : ℕ) (bytes : List ℕ) (place : ℕ) (code : Code) → verdict_of limit bytes false ≡ Refused place code → (place ≤ length bytes) × (verdict_of limit (take place bytes) false ≡ Refused place code)
refused_front limit bytes place code is =
    let at = refused_place limit bytes false place code is in (
      refused_within limit bytes false place code is,
      ap (λ n. verdict_of limit (take n bytes) false) (sym at) ∙ front_same limit bytes ∙ is,
    )

-- and fewer bytes decide nothing
pub refused_first : (limit : ℕ) (bytes : List ℕ) (place : ℕ) (code : Code) → verdict_of limit bytes false ≡ Refused place code → (count : ℕ) → count < place → IsDecided (verdict_of limit (take count bytes) false) → ⊥
refused_first limit bytes place code is count fewer decided =
    let front = take count bytes in
    let at = refused_place limit bytes false place code is in
    let within = refused_within limit bytes false place code is in
    let same : taken_in limit (front ++ drop count bytes) ≡ taken_in limit bytes = ap (taken_in limit) (take-append-drop count bytes) in
    let stays = no_more_taken limit front (drop count bytes) decided in
    let bound = count_bound (started limit) front in
    let long : length front ≡ count = length-take-le count bytes (omega (arith, fewer, within)) in
    omega (arith, at, fewer, same, stays, bound, long)
