-- What a reading of a body with a trailer counts.
use Rattle.std.proofs.Common.{◌≡◌, ℕ, suc, zero, ◌+◌, ◌-◌, ◌<◌, ◌≤◌, ◌⊎◌, ⊎_elim, Bool, true, false, not, ◌&&◌, ◌==◌, replicate, nat_lt, nat_le, if◌then◌else◌, List, [], ◌∷◌, ◌++◌, length, take, refl, sym, ap, ◌∙◌, subst, arith, inl, inr, lt-ltb, ltb-true, ltb-false, leb-true, Option, Some, None}
use Rattle.std.proofs.lemmas.Bool.{and_parts, cases_Bool, false≢true}
use Rattle.std.proofs.lemmas.List.{length_push}
use Rattle.std.proofs.lemmas.Option.{none-some}
use Rattle.std.specs.Str.{bytes_eq}
use Rattle.sha2.specs.Sha256.{sha256}
use Rattle.s3_signing.specs.Chain.{next_signature}
use Rattle.s3_aws_chunked.specs.Count.{Count, advanced}
use Rattle.s3_aws_chunked.specs.Trailer.{is_room, taken_with, trailer_fault}
use Rattle.s3_aws_chunked.specs.Decoder.{Progress, fault_at, is_at_end, is_closed, is_data, is_settled, refused, settled, started, stepped}
use Rattle.s3_aws_chunked.specs.Trailed.{Reading, TrailedTerms, after_byte, begun, chained, ended, ended_by, fault_at_end, is_shut, is_whole, judged, judged_by, run, shut, spelled, taken_in}
use Rattle.s3_aws_chunked.specs.declared.place.Place.{Place}
use Rattle.s3_aws_chunked.specs.declared.phase.Fault.{Fault}
use Rattle.s3_aws_chunked.specs.declared.phase.Fault.TheVariants.{Incomplete}
use Rattle.s3_aws_chunked.specs.declared.phase.Phase.{Phase}
use Rattle.s3_aws_chunked.specs.declared.phase.Phase.TheVariants.{Size, Line, Data, Ending, Over, Refused}
use Rattle.s3_aws_chunked.proofs.PlaceLemmas.{Kept, closed_settled, kept_run, kept_started, span_byte, span_data, span_settled}
use Rattle.s3_aws_chunked.proofs.RunLemmas.{step_byte, step_data}
use Rattle.s3_aws_chunked.proofs.OpenLemmas.{whole_run}
use Rattle.s3_aws_chunked.proofs.FrontLemmas.{IsFront, may_step}
use Rattle.s3_aws_chunked.proofs.TrailedRunLemmas.{byte_of_chunks, byte_of_trailer, judged_same, run_behind, run_shut_chunks, with_chunks}

-- the chunks are read
pub record AtFront (encoded : ℕ) (r : Reading) : Type 0 where
  pub none : r.size ≡ 0
  pub kept : Kept r.chunks.place
  pub whole : r.chunks.place.span.whole ≡ encoded
  pub phase : IsFront r.chunks.place.phase

-- the trailer is read, or was
pub record Behind (encoded : ℕ) (r : Reading) : Type 0 where
  pub some : 0 < r.size
  pub sum : r.chunks.place.span.taken + r.size ≡ encoded
  pub within : length r.trailer ≤ r.size
  pub between : is_at_end r.chunks.place.phase ≡ false
  pub right : (fault_at r.chunks.place.phase ≡ None) ⊎ (r.size ≤ length r.trailer)

-- how a reading of these bytes stands: blank says that nothing of a trailer has come before the chunks were over
abbrev pub Sound : ℕ → Reading → Type 0
Sound encoded r = (AtFront encoded r × (r.trailer ≡ [])) ⊎ Behind encoded r

front_open : (phase : Phase) → IsFront phase → is_at_end phase ≡ false
front_open (Size digits) front = refl
front_open (Line place size) front = refl
front_open (Data left last) front = front
front_open (Ending last) front = refl
front_open Over front = absurd front
front_open (Refused fault) front = refl

-- ---- the end of the chunks

room_of : (name room : ℕ) → is_room name room ≡ true → 0 < room
room_of name room is =
    let least = leb-true _ _ (and_parts (nat_le (name + 96) room) (nat_le room (name + 160)) is).0 in
    omega (arith, least)

room_if : (forged short small : Bool) (one two three : Fault) → (if forged then Some one else if short then Some two else if small then Some three else None) ≡ None → small ≡ false
room_if true short small one two three is = absurd (none-some one (sym is))
room_if false true small one two three is = absurd (none-some two (sym is))
room_if false false true one two three is = absurd (none-some three (sym is))
room_if false false false one two three is = refl

not_not : (test : Bool) → not test ≡ false → test ≡ true
not_not true is = refl
not_not false is = absurd (false≢true (sym is))

end_room : (name : ℕ) (place : Place) (hash : List ℕ) → fault_at_end name place hash ≡ None → 0 < place.span.whole - place.span.taken
unfolding fault_at_end
end_room name place hash none =
    room_of name (place.span.whole - place.span.taken)
    (not_not _
    (room_if (not (bytes_eq place.signature (next_signature place.chain hash))) (nat_lt 0 place.left)
    (not (is_room name (place.span.whole - place.span.taken))) _ _ _ none))

kept_refused : (place : Place) (fault : Fault) → Kept place → Kept (refused place fault)
kept_refused place fault kept = record { within = kept.within; full = λ full. refl }

kept_chained : (place : Place) (hash : List ℕ) → Kept place → Kept (chained place hash)
kept_chained place hash kept = record { within = kept.within; full = kept.full }

sound_by : (encoded : ℕ) (r : Reading) (place : Place) (fault : Option Fault) → r.size ≡ 0 → r.trailer ≡ [] → Kept place → place.span.whole ≡ encoded
    → (fault ≡ None → 0 < place.span.whole - place.span.taken) → Sound encoded (ended_by fault r place)
sound_by encoded r place (Some fault) none blank kept whole room =
    inl (record { none = none; kept = kept_refused place fault kept; whole = whole; phase = tt }, blank)
sound_by encoded r place None none blank kept whole room =
    inr (record {
      some = room refl;
      sum = omega (arith, kept.within, whole);
      within = omega arith;
      between = refl;
      right = inl refl;
    })

sound_ended_as : (name : List ℕ) (encoded : ℕ) (r : Reading) (test : Bool) → is_at_end r.chunks.place.phase ≡ test → r.size ≡ 0 → r.trailer ≡ [] → Kept r.chunks.place → r.chunks.place.span.whole ≡ encoded
    → (is_at_end r.chunks.place.phase ≡ false → IsFront r.chunks.place.phase) → Sound encoded (ended name r)
unfolding ended
sound_ended_as name encoded r true is none blank kept whole front =
    let hash : List ℕ = sha256 r.chunks.current in
    rw is
    (sound_by encoded r (chained r.chunks.place hash) (fault_at_end (length name) r.chunks.place hash) none blank (kept_chained r.chunks.place hash kept) whole
    (end_room (length name) r.chunks.place hash))
sound_ended_as name encoded r false is none blank kept whole front =
    rw is (inl (record { none = none; kept = kept; whole = whole; phase = front is }, blank))

-- ---- one byte

judged_right : (fault : Option Fault) (encoded : ℕ) (r : Reading) → Behind encoded r → r.size ≤ length r.trailer → Behind encoded (judged_by fault r)
judged_right (Some fault) encoded r b full = record { some = b.some; sum = b.sum; within = b.within; between = refl; right = inr full }
judged_right None encoded r b full = b

sound_judged_as : (name : List ℕ) (encoded : ℕ) (r : Reading) (test : Bool) → nat_lt (length r.trailer) r.size ≡ test → Behind encoded r → Behind encoded (judged name r)
unfolding judged
sound_judged_as name encoded r true is b = rw is b
sound_judged_as name encoded r false is b = rw is (judged_right (trailer_fault r.chunks.place.chain name r.trailer) encoded r b (ltb-false _ _ is))

behind_spelled : (encoded : ℕ) (r : Reading) (byte : ℕ) → Behind encoded r → length r.trailer < r.size → Behind encoded (spelled r (byte ∷ []))
behind_spelled encoded r byte b below =
    let long : length (r.trailer ++ byte ∷ []) ≡ length r.trailer + 1 = length_push r.trailer byte in
    record {
      some = b.some;
      sum = b.sum;
      within = omega (arith, long, below);
      between = b.between;
      right = ⊎_elim (λ (right : fault_at r.chunks.place.phase ≡ None). inl right) (λ (full : r.size ≤ length r.trailer). absurd (omega (arith, full, below))) b.right;
    }

full_stays : (name : List ℕ) (encoded : ℕ) (r : Reading) (byte : ℕ) → Behind encoded r → nat_lt (length r.trailer) r.size ≡ false → after_byte name r byte ≡ r
full_stays name encoded r byte b full = run_behind name r (byte ∷ []) b.some full

pub sound_after : (name : List ℕ) (encoded : ℕ) (r : Reading) (byte : ℕ) → Sound encoded r → Sound encoded (after_byte name r byte)
sound_after name encoded r byte (inl (f, blank)) =
    let next : Progress = stepped r.chunks byte in
    let kept : Kept next.place = kept_run r.chunks (byte ∷ []) f.kept in
    let whole : next.place.span.whole ≡ encoded = whole_run r.chunks (byte ∷ []) ∙ f.whole in
    subst (Sound encoded) (sym (byte_of_chunks name r byte f.none))
    (sound_ended_as name encoded (with_chunks r next) (is_at_end next.place.phase) refl f.none blank kept whole (may_step r.chunks byte f.phase))
sound_after name encoded r byte (inr b) = elim (cases_Bool (nat_lt (length r.trailer) r.size)) [
  | inl open' ↦
      subst (Sound encoded) (sym (byte_of_trailer name r byte b.some open'))
      (inr (sound_judged_as name encoded (spelled r (byte ∷ [])) _ refl (behind_spelled encoded r byte b (ltb-true _ _ open'))))
  | inr full ↦ subst (Sound encoded) (sym (full_stays name encoded r byte b full)) (inr b)
]

pub sound_run : (name : List ℕ) (encoded : ℕ) (r : Reading) (bytes : List ℕ) → Sound encoded r → Sound encoded (run name r bytes)
sound_run name encoded r [] sound = sound
sound_run name encoded r (byte ∷ bytes) sound = sound_run name encoded (after_byte name r byte) bytes (sound_after name encoded r byte sound)

started_front : (test : Bool) (place : Place) (fault : Fault) → IsFront place.phase → IsFront (if test then refused place fault else place).phase
started_front true place fault front = tt
started_front false place fault front = front

front_started : (terms : TrailedTerms) → IsFront (started terms.chunks).place.phase
unfolding settled
front_started terms =
    let place : Place = record {
      chain = terms.chunks.seed;
      span = record { taken = 0; whole = terms.chunks.encoded };
      left = terms.chunks.decoded;
      signature = replicate 64 48;
      phase = Size (0, 0);
    } in
    started_front (not (is_settled (Size (0, 0))) && 0 == terms.chunks.encoded) place Incomplete (tt {0})

pub sound_begun : (terms : TrailedTerms) → Sound terms.chunks.encoded (begun terms)
sound_begun terms =
    inl (
      record {
        none = refl;
        kept = kept_started terms.chunks;
        whole = ap (λ (s : Count). s.whole) (span_settled _);
        phase = front_started terms;
      },
      refl,
    )

pub sound_bytes : (terms : TrailedTerms) (bytes : List ℕ) → Sound terms.chunks.encoded (run terms.name (begun terms) bytes)
sound_bytes terms bytes = sound_run terms.name terms.chunks.encoded (begun terms) bytes (sound_begun terms)

pub sound_between : (encoded : ℕ) (r : Reading) → Sound encoded r → is_at_end r.chunks.place.phase ≡ false
sound_between encoded r (inl (f, blank)) = front_open r.chunks.place.phase f.phase
sound_between encoded r (inr b) = b.between

-- ---- what is shut is read no more

-- a front with a fault is settled
settled_fault : (phase : Phase) (fault : Fault) → fault_at phase ≡ Some fault → is_settled phase ≡ true
settled_fault (Refused other) fault is = refl
settled_fault Over fault is = absurd (none-some fault is)
settled_fault (Size digits) fault is = absurd (none-some fault is)
settled_fault (Line place size) fault is = absurd (none-some fault is)
settled_fault (Data left last) fault is = absurd (none-some fault is)
settled_fault (Ending last) fault is = absurd (none-some fault is)

-- and one without is not
open_front : (phase : Phase) → IsFront phase → fault_at phase ≡ None → is_settled phase ≡ false
open_front (Refused other) front none = absurd (none-some other (sym none))
open_front Over front none = absurd front
open_front (Size digits) front none = refl
open_front (Line place size) front none = refl
open_front (Data left last) front none = refl
open_front (Ending last) front none = refl

none_whole : (size : ℕ) (trailer : List ℕ) → size ≡ 0 → is_whole size trailer ≡ false
none_whole size trailer none = rw none refl

-- what is shut has a fault, or its trailer is whole
shut_parts : (fault : Option Fault) (whole : Bool) → is_shut fault whole ≡ true → ((other : Fault) × (fault ≡ Some other)) ⊎ ((fault ≡ None) × (whole ≡ true))
shut_parts (Some other) whole is = inl (other, refl)
shut_parts None whole is = inr (refl, is)

open_parts : (fault : Option Fault) (whole : Bool) → is_shut fault whole ≡ false → (fault ≡ None) × (whole ≡ false)
open_parts (Some other) whole is = absurd (false≢true (sym is))
open_parts None whole is = (refl, is)

pub shut_open : (r : Reading) → shut r ≡ false → (fault_at r.chunks.place.phase ≡ None) × (is_whole r.size r.trailer ≡ false)
shut_open r is = open_parts (fault_at r.chunks.place.phase) (is_whole r.size r.trailer) is

shut_front : (encoded : ℕ) (r : Reading) → AtFront encoded r → shut r ≡ true → is_closed r.chunks.place ≡ true
shut_front encoded r f is =
    ⊎_elim
    (λ (x : (other : Fault) × (fault_at r.chunks.place.phase ≡ Some other)). rw (settled_fault r.chunks.place.phase x.0 x.1) refl)
    (λ (x : (fault_at r.chunks.place.phase ≡ None) × (is_whole r.size r.trailer ≡ true)).
    absurd (false≢true (sym (none_whole r.size r.trailer f.none) ∙ x.1)))
    (shut_parts (fault_at r.chunks.place.phase) (is_whole r.size r.trailer) is)

whole_full : (size : ℕ) (trailer : List ℕ) → is_whole size trailer ≡ true → nat_lt (length trailer) size ≡ false
whole_full size trailer is =
    full_not (nat_lt (length trailer) size) (and_parts (nat_lt 0 size) (not (nat_lt (length trailer) size)) is).1
  where
    full_not : (test : Bool) → not test ≡ true → test ≡ false
    full_not true is' = absurd (false≢true is')
    full_not false is' = refl

shut_behind : (encoded : ℕ) (r : Reading) → Behind encoded r → shut r ≡ true → nat_lt (length r.trailer) r.size ≡ false
shut_behind encoded r b is =
    ⊎_elim
    (λ (x : (other : Fault) × (fault_at r.chunks.place.phase ≡ Some other)).
    ⊎_elim
    (λ (right : fault_at r.chunks.place.phase ≡ None). absurd (none-some x.0 (sym right ∙ x.1)))
    (λ (full : r.size ≤ length r.trailer). not_less (length r.trailer) r.size full)
    b.right)
    (λ (x : (fault_at r.chunks.place.phase ≡ None) × (is_whole r.size r.trailer ≡ true)). whole_full r.size r.trailer x.1)
    (shut_parts (fault_at r.chunks.place.phase) (is_whole r.size r.trailer) is)
  where
    not_less : (one other : ℕ) → other ≤ one → nat_lt one other ≡ false
    not_less one other full = elim (cases_Bool (nat_lt one other)) [
      | inl less ↦ absurd (omega (arith, ltb-true one other less, full))
      | inr is' ↦ is'
    ]

pub run_shut : (name : List ℕ) (encoded : ℕ) (r : Reading) (bytes : List ℕ) → Sound encoded r → shut r ≡ true → run name r bytes ≡ r
run_shut name encoded r bytes (inl (f, blank)) is =
    run_shut_chunks name r bytes f.none (front_open r.chunks.place.phase f.phase) (shut_front encoded r f is)
run_shut name encoded r bytes (inr b) is = run_behind name r bytes b.some (shut_behind encoded r b is)

-- ---- what is open is read

open_whole : (size : ℕ) (trailer : List ℕ) → 0 < size → is_whole size trailer ≡ false → nat_lt (length trailer) size ≡ true
open_whole size trailer some is =
    open_not (nat_lt (length trailer) size) (ap (λ b. b && not (nat_lt (length trailer) size)) (sym (lt-ltb 0 size some)) ∙ is)
  where
    open_not : (test : Bool) → not test ≡ false → test ≡ true
    open_not true is' = refl
    open_not false is' = absurd (false≢true (sym is'))

front_room : (encoded : ℕ) (r : Reading) → AtFront encoded r → shut r ≡ false → (is_closed r.chunks.place ≡ false) × (r.chunks.place.span.taken < encoded)
front_room encoded r f is =
    let none = (shut_open r is).0 in
    let open' = open_front r.chunks.place.phase f.phase none in
    let below : r.chunks.place.span.taken < r.chunks.place.span.whole = elim (cases_Bool (nat_lt r.chunks.place.span.taken r.chunks.place.span.whole)) [
      | inl less ↦ ltb-true _ _ less
      | inr full ↦ absurd (false≢true (sym open' ∙ f.kept.full (omega (arith, f.kept.within, ltb-false _ _ full))))
    ] in
    (rw (open', lt-ltb _ _ below) refl, omega (arith, below, f.whole))

span_step_as : (p : Progress) (byte : ℕ) (inside : Bool) → is_closed p.place ≡ false → is_data p.place.phase ≡ inside → (stepped p byte).place.span ≡ advanced p.place.span 1
span_step_as p byte true h k = ap (λ (q : Progress). q.place.span) (step_data p byte h k) ∙ span_data p (byte ∷ [])
span_step_as p byte false h k = ap (λ (q : Progress). q.place.span) (step_byte p byte h k) ∙ span_byte p byte

taken_none : (size front : ℕ) (trailer : List ℕ) → size ≡ 0 → taken_with size front trailer ≡ front
taken_none size front trailer none = rw none refl

pub taken_some : (size front : ℕ) (trailer : List ℕ) → 0 < size → taken_with size front trailer ≡ front + length trailer
taken_some size front trailer some = rw (lt-ltb 0 size some) refl

more_none : (front more : ℕ) → more ≡ 0 → front + more ≡ front
more_none front more empty = omega (arith, empty)

taken_by_as : (fault : Option Fault) (r : Reading) (place : Place) → r.size ≡ 0 → r.trailer ≡ [] → taken_in (ended_by fault r place) ≡ place.span.taken
taken_by_as (Some fault) r place none blank = taken_none r.size place.span.taken r.trailer none
taken_by_as None r place none blank = no_more (place.span.whole - place.span.taken) place.span.taken [] refl
  where
    no_more : (size front : ℕ) (trailer : List ℕ) → length trailer ≡ 0 → taken_with size front trailer ≡ front
    no_more zero front trailer empty = refl
    no_more (suc n) front trailer empty = taken_some (suc n) front trailer (omega arith) ∙ more_none front (length trailer) empty

taken_ended_as : (name : List ℕ) (r : Reading) (test : Bool) → is_at_end r.chunks.place.phase ≡ test → r.size ≡ 0 → r.trailer ≡ [] → taken_in (ended name r) ≡ r.chunks.place.span.taken
unfolding ended
taken_ended_as name r true is none blank =
    rw is (taken_by_as (fault_at_end (length name) r.chunks.place (sha256 r.chunks.current)) r (chained r.chunks.place (sha256 r.chunks.current)) none blank)
taken_ended_as name r false is none blank = rw is (taken_none r.size r.chunks.place.span.taken r.trailer none)

-- the count goes on by one
pub taken_after : (name : List ℕ) (encoded : ℕ) (r : Reading) (byte : ℕ) → Sound encoded r → shut r ≡ false → taken_in (after_byte name r byte) ≡ taken_in r + 1
taken_after name encoded r byte (inl (f, blank)) is =
    let next : Progress = stepped r.chunks byte in
    let room = front_room encoded r f is in
    let span : next.place.span ≡ advanced r.chunks.place.span 1 = span_step_as r.chunks byte (is_data r.chunks.place.phase) room.0 refl in
    let one : next.place.span.taken ≡ r.chunks.place.span.taken + 1 = ap (λ (s : Count). s.taken) span in
    let before = taken_none r.size r.chunks.place.span.taken r.trailer f.none in
    ap taken_in (byte_of_chunks name r byte f.none)
    ∙ taken_ended_as name (with_chunks r next) (is_at_end next.place.phase) refl f.none blank
    ∙ omega (arith, one, before)
taken_after name encoded r byte (inr b) is =
    let open' = open_whole r.size r.trailer b.some (shut_open r is).1 in
    let next = spelled r (byte ∷ []) in
    let same = judged_same name next in
    let long : length next.trailer ≡ length r.trailer + 1 = length_push r.trailer byte in
    let before = taken_some r.size r.chunks.place.span.taken r.trailer b.some in
    let after = taken_some next.size next.chunks.place.span.taken next.trailer b.some in
    let kept : taken_in (judged name next) ≡ taken_in next =
    ap (λ n. taken_with n (judged name next).chunks.place.span.taken (judged name next).trailer) same.size
    ∙ ap (λ (s : Count). taken_with next.size s.taken (judged name next).trailer) same.span
    ∙ ap (λ (t : List ℕ). taken_with next.size next.chunks.place.span.taken t) same.trailer in
    ap taken_in (byte_of_trailer name r byte b.some open') ∙ kept ∙ omega (arith, before, after, long)

-- how much was taken at most, and what is open has more to take
pub taken_most : (encoded : ℕ) (r : Reading) → Sound encoded r → taken_in r ≤ encoded
taken_most encoded r (inl (f, blank)) =
    let before = taken_none r.size r.chunks.place.span.taken r.trailer f.none in
    omega (arith, before, f.kept.within, f.whole)
taken_most encoded r (inr b) =
    let before = taken_some r.size r.chunks.place.span.taken r.trailer b.some in
    omega (arith, before, b.sum, b.within)

pub open_below : (encoded : ℕ) (r : Reading) → Sound encoded r → shut r ≡ false → taken_in r < encoded
open_below encoded r (inl (f, blank)) is =
    let before = taken_none r.size r.chunks.place.span.taken r.trailer f.none in
    omega (arith, before, (front_room encoded r f is).1)
open_below encoded r (inr b) is =
    let before = taken_some r.size r.chunks.place.span.taken r.trailer b.some in
    let open' = ltb-true _ _ (open_whole r.size r.trailer b.some (shut_open r is).1) in
    omega (arith, before, b.sum, open')

-- a whole trailer ends Content-Length
pub whole_taken : (encoded : ℕ) (r : Reading) → Sound encoded r → is_whole r.size r.trailer ≡ true → taken_in r ≡ encoded
whole_taken encoded r (inl (f, blank)) is = absurd (false≢true (sym (none_whole r.size r.trailer f.none) ∙ is))
whole_taken encoded r (inr b) is =
    let before = taken_some r.size r.chunks.place.span.taken r.trailer b.some in
    let full = ltb-false _ _ (whole_full r.size r.trailer is) in
    omega (arith, before, b.sum, b.within, full)

-- ---- several bytes

pub run_bounds : (name : List ℕ) (encoded : ℕ) (r : Reading) (bytes : List ℕ) → Sound encoded r → (taken_in r ≤ taken_in (run name r bytes)) × (taken_in (run name r bytes) ≤ taken_in r + length bytes)
run_bounds name encoded r [] sound = (omega arith, omega arith)
run_bounds name encoded r (byte ∷ bytes) sound =
    ⊎_elim
    (λ (h : shut r ≡ true).
    let same : taken_in (run name r (byte ∷ bytes)) ≡ taken_in r = ap taken_in (run_shut name encoded r (byte ∷ bytes) sound h) in
    (omega (arith, same), omega (arith, same)))
    (λ (h : shut r ≡ false).
    let first = taken_after name encoded r byte sound h in
    let rest = run_bounds name encoded (after_byte name r byte) bytes (sound_after name encoded r byte sound) in
    (omega (arith, first, rest.0), omega (arith, first, rest.1)))
    (cases_Bool (shut r))

-- what is open has taken all that has come
pub run_open : (name : List ℕ) (encoded : ℕ) (r : Reading) (bytes : List ℕ) → Sound encoded r → shut (run name r bytes) ≡ false → taken_in (run name r bytes) ≡ taken_in r + length bytes
run_open name encoded r [] sound open' = omega arith
run_open name encoded r (byte ∷ bytes) sound open' =
    ⊎_elim
    (λ (h : shut r ≡ true). absurd (false≢true (sym open' ∙ ap shut (run_shut name encoded r (byte ∷ bytes) sound h) ∙ h)))
    (λ (h : shut r ≡ false).
    let first = taken_after name encoded r byte sound h in
    let rest = run_open name encoded (after_byte name r byte) bytes (sound_after name encoded r byte sound) open' in
    omega (arith, first, rest))
    (cases_Bool (shut r))

-- what was not taken is not read
pub run_front : (name : List ℕ) (encoded : ℕ) (r : Reading) (bytes : List ℕ) → Sound encoded r → run name r (take (taken_in (run name r bytes) - taken_in r) bytes) ≡ run name r bytes
run_front name encoded r [] sound =
    let none : taken_in r - taken_in r ≡ 0 = omega arith in
    ap (λ n. run name r (take n [])) none
run_front name encoded r (byte ∷ bytes) sound =
    ⊎_elim
    (λ (h : shut r ≡ true).
    run_shut name encoded r (take (taken_in (run name r (byte ∷ bytes)) - taken_in r) (byte ∷ bytes)) sound h
    ∙ sym (run_shut name encoded r (byte ∷ bytes) sound h))
    (λ (h : shut r ≡ false).
    let next = after_byte name r byte in
    let after = sound_after name encoded r byte sound in
    let first = taken_after name encoded r byte sound h in
    let rest = run_bounds name encoded next bytes after in
    let count : taken_in (run name next bytes) - taken_in r ≡ suc (taken_in (run name next bytes) - taken_in next) = omega (arith, first, rest.0) in
    ap (λ n. run name r (take n (byte ∷ bytes))) count ∙ run_front name encoded next bytes after)
    (cases_Bool (shut r))

-- where nothing is wrong and no byte is read, the trailer is whole
pub closed_whole : (encoded : ℕ) (r : Reading) → Sound encoded r → fault_at r.chunks.place.phase ≡ None → nat_lt (length r.trailer) r.size ≡ false → (0 < r.size) ⊎ (is_closed r.chunks.place ≡ true) → is_whole r.size r.trailer ≡ true
closed_whole encoded r sound none full (inl some) = rw (lt-ltb 0 r.size some, full) refl
closed_whole encoded r (inr b) none full (inr closed') = rw (lt-ltb 0 r.size b.some, full) refl
closed_whole encoded r (inl (f, blank)) none full (inr closed') =
    absurd (false≢true (sym (open_front r.chunks.place.phase f.phase none) ∙ closed_settled r.chunks.place f.kept closed'))

-- where nothing is wrong and no trailer has begun, bytes are read
pub front_unshut : (r : Reading) → r.size ≡ 0 → fault_at r.chunks.place.phase ≡ None → shut r ≡ false
front_unshut r none right = rw (right, none) refl
