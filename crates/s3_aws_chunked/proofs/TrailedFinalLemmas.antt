-- Verdicts on bodies with a trailer are final, and stand at their place.
use Rattle.std.proofs.Common.{◌≡◌, ℕ, ◌-◌, ◌<◌, ◌≤◌, ⊎_elim, Bool, true, false, List, ◌++◌, length, take, min, refl, sym, ap, ◌∙◌, subst, arith, Option, Some, None}
use Rattle.std.proofs.lemmas.Bool.{cases_Bool, false≢true}
use Rattle.std.proofs.lemmas.Option.{none-some}
use Rattle.s3_terms.specs.declared.code.Code.{Code}
use Rattle.s3_terms.specs.declared.code.Code.TheVariants.{IncompleteBody}
use Rattle.s3_unsigned_chunks.specs.Finality.{IsDecided}
use Rattle.s3_unsigned_chunks.specs.Verdict.{Verdict, Refused, Accepted, Open, accepts}
use Rattle.s3_aws_chunked.specs.Count.{Count}
use Rattle.s3_aws_chunked.specs.Trailer.{value_of_trailer}
use Rattle.s3_aws_chunked.specs.Decoder.{fault_at}
use Rattle.s3_aws_chunked.specs.Trailed.{Reading, TrailedTerms, begun, is_shut, is_whole, reading_of, refused_by, run, shut, stopped, taken_in, verdict_at, verdict_in, verdict_of}
use Rattle.s3_aws_chunked.specs.declared.phase.Fault.{Fault}
use Rattle.s3_aws_chunked.specs.declared.phase.Fault.TheVariants.{Incomplete}
use Rattle.s3_aws_chunked.proofs.PlaceLemmas.{span_settled}
use Rattle.s3_aws_chunked.proofs.TrailedRunLemmas.{run-append}
use Rattle.s3_aws_chunked.proofs.TrailedKeptLemmas.{open_below, run_bounds, run_front, run_open, run_shut, sound_begun, sound_bytes, whole_taken}

-- ---- what is decided is shut

decided_shut : (fault : Option Fault) (whole : Bool) (taken : ℕ) (held value : List ℕ) → IsDecided (verdict_at fault whole taken held value) → is_shut fault whole ≡ true
decided_shut (Some fault) whole taken held value is = refl
decided_shut None true taken held value is = refl
decided_shut None false taken held value is = absurd is

shut_decided : (fault : Option Fault) (whole : Bool) (taken : ℕ) (held value : List ℕ) → is_shut fault whole ≡ true → IsDecided (verdict_at fault whole taken held value)
shut_decided (Some fault) whole taken held value is = tt
shut_decided None true taken held value is = tt
shut_decided None false taken held value is = absurd (false≢true is)

open_at : (fault : Option Fault) (whole : Bool) (taken : ℕ) (held value data' : List ℕ) → verdict_at fault whole taken held value ≡ Open data' → is_shut fault whole ≡ false
open_at (Some fault) whole taken held value data' is = absurd (subst IsDecided is tt)
open_at None true taken held value data' is = absurd (subst IsDecided is tt)
open_at None false taken held value data' is = refl

-- the place that a verdict names
abbrev place_of : Verdict → ℕ
place_of (Refused place code) = place
place_of (Accepted held value) = 0
place_of (Open held) = 0

refused_at : (fault : Option Fault) (whole : Bool) (taken : ℕ) (held value : List ℕ) (place : ℕ) (code : Code) → verdict_at fault whole taken held value ≡ Refused place code → taken ≡ place
refused_at (Some fault) whole taken held value place code is = ap place_of is
refused_at None true taken held value place code is = absurd (false≢true (sym (ap accepts is)))
refused_at None false taken held value place code is = absurd (subst IsDecided (sym is) tt)

-- what is said of these bytes before the end of the input
abbrev pub bytes_read : TrailedTerms → List ℕ → Reading
bytes_read terms bytes = run terms.name (begun terms) bytes

stopped_same : (r : Reading) → shut r ≡ true → stopped r ≡ r
stopped_same r is = rw is refl

stopped_open : (r : Reading) → shut r ≡ false → stopped r ≡ refused_by r Incomplete
stopped_open r is = rw is refl

same_reading : (terms : TrailedTerms) (bytes : List ℕ) (ended : Bool) → shut (bytes_read terms bytes) ≡ true → reading_of terms bytes ended ≡ bytes_read terms bytes
same_reading terms bytes true is = stopped_same (bytes_read terms bytes) is
same_reading terms bytes false is = refl

-- what is shut stands after anything more
pub shut_stays : (terms : TrailedTerms) (bytes more : List ℕ) → shut (bytes_read terms bytes) ≡ true → bytes_read terms (bytes ++ more) ≡ bytes_read terms bytes
shut_stays terms bytes more is =
    run-append terms.name (begun terms) bytes more
    ∙ run_shut terms.name terms.chunks.encoded (bytes_read terms bytes) more (sound_bytes terms bytes) is

pub verdicts_stay : (terms : TrailedTerms) (bytes more : List ℕ) (ended : Bool) → IsDecided (verdict_of terms bytes false) → verdict_of terms (bytes ++ more) ended ≡ verdict_of terms bytes false
verdicts_stay terms bytes more ended decided =
    let r = bytes_read terms bytes in
    let is : shut r ≡ true = decided_shut (fault_at r.chunks.place.phase) (is_whole r.size r.trailer) (taken_in r) r.chunks.held (value_of_trailer terms.name r.trailer) decided in
    let same = shut_stays terms bytes more is in
    ap (verdict_in terms.name) (same_reading terms (bytes ++ more) ended (ap shut same ∙ is) ∙ same)

stopped_shut_as : (r : Reading) (test : Bool) → shut r ≡ test → shut (stopped r) ≡ true
stopped_shut_as r true is = ap shut (stopped_same r is) ∙ is
stopped_shut_as r false is = ap shut (stopped_open r is)

pub ends_decide : (terms : TrailedTerms) (bytes : List ℕ) → IsDecided (verdict_of terms bytes true)
ends_decide terms bytes =
    let r = stopped (bytes_read terms bytes) in
    shut_decided (fault_at r.chunks.place.phase) (is_whole r.size r.trailer) (taken_in r) r.chunks.held (value_of_trailer terms.name r.trailer)
    (stopped_shut_as (bytes_read terms bytes) (shut (bytes_read terms bytes)) refl)

-- ---- what is open lacks bytes

nothing_taken : (terms : TrailedTerms) → taken_in (begun terms) ≡ 0
nothing_taken terms = ap (λ (s : Count). s.taken) (span_settled _)

open_shut : (terms : TrailedTerms) (bytes held : List ℕ) → verdict_of terms bytes false ≡ Open held → shut (bytes_read terms bytes) ≡ false
open_shut terms bytes held is =
    let r = bytes_read terms bytes in
    open_at (fault_at r.chunks.place.phase) (is_whole r.size r.trailer) (taken_in r) r.chunks.held (value_of_trailer terms.name r.trailer) held is

open_taken : (terms : TrailedTerms) (bytes : List ℕ) → shut (bytes_read terms bytes) ≡ false → taken_in (bytes_read terms bytes) ≡ length bytes
open_taken terms bytes open' =
    let all = run_open terms.name terms.chunks.encoded (begun terms) bytes (sound_begun terms) open' in
    let nothing = nothing_taken terms in
    omega (arith, all, nothing)

pub open_less : (terms : TrailedTerms) (bytes : List ℕ) → shut (bytes_read terms bytes) ≡ false → length bytes < terms.chunks.encoded
open_less terms bytes open' =
    let all = open_taken terms bytes open' in
    let below = open_below terms.chunks.encoded (bytes_read terms bytes) (sound_bytes terms bytes) open' in
    omega (arith, all, below)

pub open_short : (terms : TrailedTerms) (bytes held : List ℕ) → verdict_of terms bytes false ≡ Open held → length bytes < terms.chunks.encoded
open_short terms bytes held is = open_less terms bytes (open_shut terms bytes held is)

pub open_incomplete : (terms : TrailedTerms) (bytes held : List ℕ) → verdict_of terms bytes false ≡ Open held → verdict_of terms bytes true ≡ Refused (length bytes) IncompleteBody
open_incomplete terms bytes held is =
    let open' = open_shut terms bytes held is in
    ap (verdict_in terms.name) (stopped_open (bytes_read terms bytes) open')
    ∙ ap (λ n. Refused n IncompleteBody) (open_taken terms bytes open')

-- ---- refusals stand at their places

stopped_taken_as : (r : Reading) (test : Bool) → shut r ≡ test → taken_in (stopped r) ≡ taken_in r
stopped_taken_as r true is = ap taken_in (stopped_same r is)
stopped_taken_as r false is = ap taken_in (stopped_open r is)

taken_within : (terms : TrailedTerms) (bytes : List ℕ) → taken_in (bytes_read terms bytes) ≤ length bytes
taken_within terms bytes =
    let bounds = run_bounds terms.name terms.chunks.encoded (begun terms) bytes (sound_begun terms) in
    let nothing = nothing_taken terms in
    omega (arith, bounds.1, nothing)

pub reading_within : (terms : TrailedTerms) (bytes : List ℕ) (ended : Bool) → taken_in (reading_of terms bytes ended) ≤ length bytes
reading_within terms bytes true =
    let r = bytes_read terms bytes in
    let same = stopped_taken_as r (shut r) refl in
    let within = taken_within terms bytes in
    omega (arith, same, within)
reading_within terms bytes false = taken_within terms bytes

pub refused_within : (terms : TrailedTerms) (bytes : List ℕ) (ended : Bool) (place : ℕ) (code : Code) → verdict_of terms bytes ended ≡ Refused place code → place ≤ length bytes
refused_within terms bytes ended place code is =
    let r = reading_of terms bytes ended in
    let at = refused_at (fault_at r.chunks.place.phase) (is_whole r.size r.trailer) (taken_in r) r.chunks.held (value_of_trailer terms.name r.trailer) place code is in
    let within = reading_within terms bytes ended in
    omega (arith, at, within)

pub refused_front : (terms : TrailedTerms) (bytes : List ℕ) (place : ℕ) (code : Code) → verdict_of terms bytes false ≡ Refused place code
    → (place ≤ length bytes) × (verdict_of terms (take place bytes) false ≡ Refused place code)
refused_front terms bytes place code is =
    let r = bytes_read terms bytes in
    let at = refused_at (fault_at r.chunks.place.phase) (is_whole r.size r.trailer) (taken_in r) r.chunks.held (value_of_trailer terms.name r.trailer) place code is in
    let nothing = nothing_taken terms in
    let count : place ≡ taken_in r - taken_in (begun terms) = omega (arith, at, nothing) in (
      refused_within terms bytes false place code is,
      ap (verdict_in terms.name)
          (ap (λ n. run terms.name (begun terms) (take n bytes)) count ∙ run_front terms.name terms.chunks.encoded (begun terms) bytes (sound_begun terms))
          ∙ is,
    )

-- ---- what refuses nothing has taken all up to Content-Length

count_as : (terms : TrailedTerms) (bytes : List ℕ) (test : Bool) → shut (bytes_read terms bytes) ≡ test → fault_at (bytes_read terms bytes).chunks.place.phase ≡ None → taken_in (bytes_read terms bytes) ≡ min terms.chunks.encoded (length bytes)
count_as terms bytes true is none =
    let r = bytes_read terms bytes in
    let whole : is_whole r.size r.trailer ≡ true = ap (λ f. is_shut f (is_whole r.size r.trailer)) (sym none) ∙ is in
    let all = whole_taken terms.chunks.encoded r (sound_bytes terms bytes) whole in
    let within = taken_within terms bytes in
    omega (arith, all, within)
count_as terms bytes false is none =
    let all = open_taken terms bytes is in
    let below = open_less terms bytes is in
    omega (arith, all, below)

pub reading_counts : (terms : TrailedTerms) (bytes : List ℕ) (ended : Bool) → fault_at (reading_of terms bytes ended).chunks.place.phase ≡ None → taken_in (reading_of terms bytes ended) ≡ min terms.chunks.encoded (length bytes)
reading_counts terms bytes false none = count_as terms bytes (shut (bytes_read terms bytes)) refl none
reading_counts terms bytes true none =
    let r = bytes_read terms bytes in
    ⊎_elim
    (λ (is : shut r ≡ true).
    let same = stopped_same r is in
    ap taken_in same ∙ count_as terms bytes true is (ap (λ (q : Reading). fault_at q.chunks.place.phase) (sym same) ∙ none))
    (λ (open' : shut r ≡ false).
    absurd (none-some Incomplete (sym none ∙ ap (λ (q : Reading). fault_at q.chunks.place.phase) (stopped_open r open'))))
    (cases_Bool (shut r))
