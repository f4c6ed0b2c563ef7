-- What comes of several bytes of a body with a trailer: of the chunks, and of the trailer behind them.
use Rattle.std.proofs.Common.{◌≡◌, ℕ, suc, ◌+◌, ◌-◌, ◌<◌, ◌≤◌, Bool, true, false, nat_lt, List, [], ◌∷◌, ◌++◌, length, min, take, drop, refl, sym, ap, ◌∙◌, arith, append_assoc, inl, inr, lt-ltb, ltb-true, ltb-false, Option, Some, None}
use Rattle.std.proofs.lemmas.Bool.{cases_Bool}
use Rattle.std.proofs.lemmas.List.{append-nil, length_push, length-take-le, take_min, take-append-drop, take-append-le}
use Rattle.std.proofs.Math.Seq.{take-nil}
use Rattle.sha2.specs.Sha256.{sha256}
use Rattle.s3_aws_chunked.specs.Decoder.{Progress, StandBefore, is_at_end, is_closed, stepped}
use Rattle.s3_aws_chunked.specs.Decoder as chunks
use Rattle.s3_aws_chunked.specs.Trailer.{trailer_fault}
use Rattle.s3_aws_chunked.specs.Trailed.{Reading, after_byte, chained, ended, ended_by, fault_at_end, judged, judged_by, run, spelled}
use Rattle.s3_aws_chunked.specs.TrailedReader.{IsBetween}
use Rattle.s3_aws_chunked.specs.declared.place.Place.{Place}
use Rattle.s3_aws_chunked.specs.declared.phase.Fault.{Fault}
use Rattle.s3_aws_chunked.proofs.RunLemmas.{stepped_closed}

-- pieces, one after the other
pub run-append : (name : List ℕ) (r : Reading) (front rest : List ℕ) → run name r (front ++ rest) ≡ run name (run name r front) rest
run-append name r [] rest = refl
run-append name r (byte ∷ front) rest = run-append name (after_byte name r byte) front rest

-- ---- the end of the chunks

ended_by_between : (fault : Option Fault) (r : Reading) (place : Place) → IsBetween (ended_by fault r place)
ended_by_between (Some fault) r place = refl
ended_by_between None r place = refl

ended_between_as : (name : List ℕ) (r : Reading) (test : Bool) → is_at_end r.chunks.place.phase ≡ test → IsBetween (ended name r)
unfolding ended
ended_between_as name r true is =
    rw is
    (ended_by_between (fault_at_end (length name) r.chunks.place (sha256 r.chunks.current)) r (chained r.chunks.place (sha256 r.chunks.current)))
ended_between_as name r false is = rw is is

-- behind the first line of the last chunk the chunks are over
pub ended_between : (name : List ℕ) (r : Reading) → IsBetween (ended name r)
ended_between name r = ended_between_as name r (is_at_end r.chunks.place.phase) refl

-- and elsewhere they go on
pub ended_same : (name : List ℕ) (r : Reading) → IsBetween r → ended name r ≡ r
unfolding ended
ended_same name r is = rw is refl

ended_by_held : (fault : Option Fault) (r : Reading) (place : Place) → (ended_by fault r place).chunks.held ≡ r.chunks.held
ended_by_held (Some fault) r place = refl
ended_by_held None r place = refl

ended_held_as : (name : List ℕ) (r : Reading) (test : Bool) → is_at_end r.chunks.place.phase ≡ test → (ended name r).chunks.held ≡ r.chunks.held
unfolding ended
ended_held_as name r true is =
    rw is
    (ended_by_held (fault_at_end (length name) r.chunks.place (sha256 r.chunks.current)) r (chained r.chunks.place (sha256 r.chunks.current)))
ended_held_as name r false is = rw is refl

pub ended_held : (name : List ℕ) (r : Reading) → (ended name r).chunks.held ≡ r.chunks.held
ended_held name r = ended_held_as name r (is_at_end r.chunks.place.phase) refl

-- ---- the chunks

-- the same with these chunks
abbrev pub with_chunks : Reading → Progress → Reading
with_chunks r p = record r { chunks = p }

pub byte_of_chunks : (name : List ℕ) (r : Reading) (byte : ℕ) → r.size ≡ 0 → after_byte name r byte ≡ ended name (with_chunks r (stepped r.chunks byte))
unfolding after_byte
byte_of_chunks name r byte none = rw none refl

pub run_chunks : (name : List ℕ) (r : Reading) (bytes : List ℕ) → r.size ≡ 0 → IsBetween r → StandBefore r.chunks bytes (length bytes)
    → run name r bytes ≡ ended name (with_chunks r (chunks.run r.chunks bytes))
run_chunks name r [] none between before = sym (ended_same name r between)
run_chunks name r (byte ∷ []) none between before = byte_of_chunks name r byte none
run_chunks name r (byte ∷ next ∷ bytes) none between before =
    let after = with_chunks r (stepped r.chunks byte) in
    let going : IsBetween after = before 1 (omega arith) in
    ap (λ q. run name q (next ∷ bytes)) (byte_of_chunks name r byte none ∙ ended_same name after going)
    ∙ run_chunks name after (next ∷ bytes) none going (λ m below. before (suc m) (omega (arith, below)))

-- a front of a front
pub take_front : (m n : ℕ) (bytes : List ℕ) → m ≤ n → n ≤ length bytes → take m (take n bytes) ≡ take m bytes
take_front m n bytes fits within =
    let long : length (take n bytes) ≡ n = length-take-le n bytes within in
    sym (take-append-le m (take n bytes) (drop n bytes) (omega (arith, fits, long)))
    ∙ ap (take m) (take-append-drop n bytes)

before_front : (p : Progress) (bytes : List ℕ) (n : ℕ) → n ≤ length bytes → StandBefore p bytes n → StandBefore p (take n bytes) (length (take n bytes))
before_front p bytes n within before m below =
    let long : length (take n bytes) ≡ n = length-take-le n bytes within in
    ap (λ (t : List ℕ). is_at_end (chunks.run p t).place.phase) (take_front m n bytes (omega (arith, below, long)) within)
    ∙ before m (omega (arith, below, long))

-- the first of these bytes, up to the end of the chunks
pub run_taken : (name : List ℕ) (r : Reading) (bytes : List ℕ) (n : ℕ) → r.size ≡ 0 → IsBetween r → n ≤ length bytes → StandBefore r.chunks bytes n
    → run name r (take n bytes) ≡ ended name (with_chunks r (chunks.run r.chunks (take n bytes)))
run_taken name r bytes n none between within before =
    run_chunks name r (take n bytes) none between (before_front r.chunks bytes n within before)

-- nothing comes of what is not read
pub run_shut_chunks : (name : List ℕ) (r : Reading) (bytes : List ℕ) → r.size ≡ 0 → IsBetween r → is_closed r.chunks.place ≡ true → run name r bytes ≡ r
run_shut_chunks name r [] none between shut = refl
run_shut_chunks name r (byte ∷ bytes) none between shut =
    let same : after_byte name r byte ≡ r =
    byte_of_chunks name r byte none
    ∙ ap (λ (p : Progress). ended name (with_chunks r p)) (stepped_closed r.chunks byte shut)
    ∙ ended_same name r between in
    ap (λ q. run name q bytes) same ∙ run_shut_chunks name r bytes none between shut

-- ---- the trailer

spelled_nothing : (r : Reading) → spelled r [] ≡ r
spelled_nothing r = ap (λ (t : List ℕ). record r { trailer = t }) (append-nil r.trailer)

spelled_twice : (r : Reading) (a b : List ℕ) → spelled (spelled r a) b ≡ spelled r (a ++ b)
spelled_twice r a b = ap (λ (t : List ℕ). record r { trailer = t }) (append_assoc r.trailer a b)

pub judged_open : (name : List ℕ) (r : Reading) → nat_lt (length r.trailer) r.size ≡ true → judged name r ≡ r
unfolding judged
judged_open name r is = rw is refl

pub judged_whole : (name : List ℕ) (r : Reading) → nat_lt (length r.trailer) r.size ≡ false → judged name r ≡ judged_by (trailer_fault r.chunks.place.chain name r.trailer) r
unfolding judged
judged_whole name r is = rw is refl

-- judging changes nothing but the phase
pub record Same (one other : Reading) : Type 0 where
  pub size : one.size ≡ other.size
  pub trailer : one.trailer ≡ other.trailer
  pub held : one.chunks.held ≡ other.chunks.held
  pub span : one.chunks.place.span ≡ other.chunks.place.span

judged_by_same : (fault : Option Fault) (r : Reading) → Same (judged_by fault r) r
judged_by_same (Some fault) r = record { size = refl; trailer = refl; held = refl; span = refl }
judged_by_same None r = record { size = refl; trailer = refl; held = refl; span = refl }

judged_same_as : (name : List ℕ) (r : Reading) (test : Bool) → nat_lt (length r.trailer) r.size ≡ test → Same (judged name r) r
unfolding judged
judged_same_as name r true is = rw is (record { size = refl; trailer = refl; held = refl; span = refl })
judged_same_as name r false is = rw is (judged_by_same (trailer_fault r.chunks.place.chain name r.trailer) r)

pub judged_same : (name : List ℕ) (r : Reading) → Same (judged name r) r
judged_same name r = judged_same_as name r (nat_lt (length r.trailer) r.size) refl

pub byte_of_trailer : (name : List ℕ) (r : Reading) (byte : ℕ) → 0 < r.size → nat_lt (length r.trailer) r.size ≡ true → after_byte name r byte ≡ judged name (spelled r (byte ∷ []))
unfolding after_byte
byte_of_trailer name r byte some open' = rw (lt-ltb 0 r.size some, open') refl

byte_behind : (name : List ℕ) (r : Reading) (byte : ℕ) → 0 < r.size → nat_lt (length r.trailer) r.size ≡ false → after_byte name r byte ≡ r
unfolding after_byte
byte_behind name r byte some full = rw (lt-ltb 0 r.size some, full) refl

-- behind a whole trailer nothing is read
pub run_behind : (name : List ℕ) (r : Reading) (bytes : List ℕ) → 0 < r.size → nat_lt (length r.trailer) r.size ≡ false → run name r bytes ≡ r
run_behind name r [] some full = refl
run_behind name r (byte ∷ bytes) some full = ap (λ q. run name q bytes) (byte_behind name r byte some full) ∙ run_behind name r bytes some full

-- bytes of the trailer, and where it is whole what is wrong with it
pub run_trailer : (name : List ℕ) (r : Reading) (bytes : List ℕ) → nat_lt (length r.trailer) r.size ≡ true
    → run name r bytes ≡ judged name (spelled r (take (r.size - length r.trailer) bytes))
run_trailer name r [] open' =
    sym (ap (λ t. judged name (spelled r t)) (take-nil (r.size - length r.trailer)) ∙ ap (judged name) (spelled_nothing r) ∙ judged_open name r open')
run_trailer name r (byte ∷ bytes) open' =
    let room : length r.trailer < r.size = ltb-true _ _ open' in
    let next = spelled r (byte ∷ []) in
    let long : length next.trailer ≡ length r.trailer + 1 = length_push r.trailer byte in
    let count : r.size - length r.trailer ≡ suc (r.size - length next.trailer) = omega (arith, long, room) in
    let first : after_byte name r byte ≡ judged name next = byte_of_trailer name r byte (omega (arith, room)) open' in
    let all : judged name (spelled r (take (r.size - length r.trailer) (byte ∷ bytes))) ≡ judged name (spelled next (take (r.size - length next.trailer) bytes)) =
    ap (λ n. judged name (spelled r (take n (byte ∷ bytes)))) count
    ∙ ap (judged name) (sym (spelled_twice r (byte ∷ []) (take (r.size - length next.trailer) bytes))) in
    elim (cases_Bool (nat_lt (length next.trailer) r.size)) [
      | inl more ↦ ap (λ q. run name q bytes) (first ∙ judged_open name next more) ∙ run_trailer name next bytes more ∙ sym all
      | inr full ↦
          let none : r.size - length next.trailer ≡ 0 = omega (arith, ltb-false _ _ full) in
          let same = judged_same name next in
          let whole : nat_lt (length (judged name next).trailer) (judged name next).size ≡ false =
          ap (λ (t : List ℕ). nat_lt (length t) (judged name next).size) same.trailer
          ∙ ap (λ n. nat_lt (length next.trailer) n) same.size ∙ full in
          ap (λ q. run name q bytes) first
          ∙ run_behind name (judged name next) bytes (omega (arith, room, same.size)) whole
          ∙ sym (all ∙ ap (λ n. judged name (spelled next (take n bytes))) none ∙ ap (judged name) (spelled_nothing next))
    ]

-- the same, where so many bytes were taken as are to come, or all
pub trailer_read : (name : List ℕ) (r : Reading) (piece : List ℕ) (count : ℕ) → nat_lt (length r.trailer) r.size ≡ true → count ≡ min (r.size - length r.trailer) (length piece)
    → run name r piece ≡ judged name (spelled r (take count piece))
trailer_read name r piece count open' is =
    run_trailer name r piece open'
    ∙ ap (λ t. judged name (spelled r t)) (sym (ap (λ n. take n piece) is ∙ take_min (r.size - length r.trailer) piece))

-- bytes of the trailer give no data
pub run_trailer_held : (name : List ℕ) (r : Reading) (bytes : List ℕ) → 0 < r.size → (run name r bytes).chunks.held ≡ r.chunks.held
run_trailer_held name r bytes some = elim (cases_Bool (nat_lt (length r.trailer) r.size)) [
  | inl open' ↦
      ap (λ (q : Reading). q.chunks.held) (run_trailer name r bytes open')
      ∙ (judged_same name (spelled r (take (r.size - length r.trailer) bytes))).held
  | inr full ↦ ap (λ (q : Reading). q.chunks.held) (run_behind name r bytes some full)
]
