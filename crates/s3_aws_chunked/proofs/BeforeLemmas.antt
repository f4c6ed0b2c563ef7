-- Bytes that stand before what follows the first line of the last chunk.
use Rattle.std.proofs.Common.{◌≡◌, ℕ, zero, suc, ◌+◌, ◌-◌, ◌<◌, ◌≤◌, ⊎_elim, Bool, true, false, not, ◌||◌, List, length, take, drop, refl, sym, ap, ◌∙◌, arith}
use Rattle.std.proofs.lemmas.Bool.{cases_lt, false≢true}
use Rattle.std.proofs.lemmas.List.{take_rest}
use Rattle.s3_aws_chunked.specs.Decoder.{Progress, StandBefore, is_at_end, is_closed, run, stops}
use Rattle.s3_aws_chunked.specs.declared.place.Place.{Place}
use Rattle.s3_aws_chunked.specs.declared.phase.Phase.TheVariants.{Data}
use Rattle.s3_aws_chunked.proofs.RunLemmas.{front_of_data, run_more}
use Rattle.s3_aws_chunked.proofs.FrontLemmas.{data_between}

or_parts : (one other : Bool) → (one || other) ≡ false → (one ≡ false) × (other ≡ false)
or_parts true other is = absurd (false≢true (sym is))
or_parts false other is = (refl, is)

-- before the first byte
pub before_first : (place : Place) (p : Progress) (bytes : List ℕ) → place ≡ p.place → is_at_end place.phase ≡ false → StandBefore p bytes 1
before_first place p bytes there open' zero below = ap (λ (q : Place). is_at_end q.phase) (sym there) ∙ open'
before_first place p bytes there open' (suc m) below = absurd (omega (arith, below))

-- in the data of a chunk
pub data_before : (place : Place) (p : Progress) (left n : ℕ) (last : Bool) (bytes : List ℕ) → place ≡ p.place → place.phase ≡ Data left last → is_at_end place.phase ≡ false → n ≤ length bytes → n ≤ left → place.span.taken + n ≤ place.span.whole → StandBefore p bytes n
data_before place p left n last bytes there is open' within to_come room zero below = ap (λ (q : Place). is_at_end q.phase) (sym there) ∙ open'
data_before place p left n last bytes there is open' within to_come room (suc m) below =
    ap (λ (q : Progress). is_at_end q.place.phase)
    (front_of_data place p left (suc m) last bytes there is (omega arith) (omega (arith, below, within)) (omega (arith, below, to_come)) (omega (arith, below, room)))
    ∙ data_between p (take (suc m) bytes) (ap (λ (q : Place). is_at_end q.phase) (sym there) ∙ open')

-- so many bytes, and so many more
pub before_more : (p : Progress) (bytes : List ℕ) (n m : ℕ) → n ≤ length bytes → StandBefore p bytes n → StandBefore (run p (take n bytes)) (take (length bytes - n) (drop n bytes)) m → StandBefore p bytes (n + m)
before_more p bytes n m within first second k below =
    ⊎_elim
    (λ (less : k < n). first k less)
    (λ (more : n ≤ k).
    let j : ℕ = k - n in
    let count : k ≡ n + j = omega (arith, more) in
    ap (λ (i : ℕ). is_at_end (run p (take i bytes)).place.phase) count
    ∙ ap (λ (q : Progress). is_at_end q.place.phase) (sym (run_more p bytes n j))
    ∙ ap (λ (t : List ℕ). is_at_end (run (run p (take n bytes)) (take j t)).place.phase) (sym (take_rest bytes n))
    ∙ second j (omega (arith, below, more)))
    (cases_lt k n)

pub none_before : (p : Progress) (bytes : List ℕ) → StandBefore p bytes 0
none_before p bytes m below = absurd (omega (arith, below))

-- where a byte is read
pub stops_closed : (front : Bool) (place : Place) → stops front place ≡ false → is_closed place ≡ false
stops_closed true place is = (or_parts (is_closed place) (is_at_end place.phase) is).0
stops_closed false place is = is

pub stops_between : (front : Bool) (place : Place) → front ≡ true → stops front place ≡ false → is_at_end place.phase ≡ false
stops_between true place front is = (or_parts (is_closed place) (is_at_end place.phase) is).1
stops_between false place front is = absurd (false≢true front)

pub not_true : (test : Bool) → not test ≡ true → test ≡ false
not_true true is = absurd (false≢true is)
not_true false is = refl
