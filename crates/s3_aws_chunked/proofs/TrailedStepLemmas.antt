-- How the decoder of a body with a trailer goes on: in the chunks, at their end, and in the trailer.
use Rattle.std.proofs.Common.{◌≡◌, ℕ, ◌-◌, ◌<◌, ◌≤◌, ◌⊎◌, ⊎_elim, Bool, true, false, ◌||◌, nat_lt, List, [], ◌++◌, length, min, take, drop, refl, sym, ap, ◌∙◌, subst, arith, inl, inr, Option, Some, None}
use Rattle.std.proofs.lemmas.Bool.{cases_Bool, cases_lt, false≢true}
use Rattle.std.proofs.lemmas.List.{append-nil, take_all, take-append-drop, take_rest}
use Rattle.sha2.specs.Sha256.{sha256}
use Rattle.sha2.specs.Hashers.{Holds256}
use Rattle.s3_aws_chunked.specs.Sinks.{got}
use Rattle.s3_aws_chunked.specs.Decoder.{Keeps, Progress, Shows, StandBefore, is_at_end, is_closed, moved, refused, stops}
use Rattle.s3_aws_chunked.specs.Decoder as chunks
use Rattle.s3_aws_chunked.specs.Trailer.{TrailerState, trailer_fault}
use Rattle.s3_aws_chunked.specs.Trailed.{Reading, chained, ended, ended_by, fault_at_end, judged, judged_by, run, spelled}
use Rattle.s3_aws_chunked.specs.TrailedReader.{IsBetween, ShowsTrailed}
use Rattle.s3_aws_chunked.specs.declared.place.Place.{Place}
use Rattle.s3_aws_chunked.specs.declared.decoder.Decoder.{Decoder}
use Rattle.s3_aws_chunked.specs.declared.trailed.TrailedDecoder.{TrailedDecoder}
use Rattle.s3_aws_chunked.specs.declared.phase.Fault.{Fault}
use Rattle.s3_aws_chunked.specs.declared.phase.Phase.TheVariants as phases
use Rattle.s3_aws_chunked.proofs.RunLemmas.{afresh, held_behind}
use Rattle.s3_aws_chunked.proofs.SinkLemmas.{got_by}
use Rattle.s3_aws_chunked.proofs.TrailedRunLemmas.{ended_between, ended_held, ended_same, judged_open, judged_whole, run-append, run_behind, run_shut_chunks, run_taken, run_trailer_held, trailer_read, with_chunks}

-- ---- the chunks

-- more of the chunks has come
pub chunks_shown : (d : TrailedDecoder) (decoder : Decoder) (r : Reading) (p : Progress) → ShowsTrailed d r → d.trailer.size ≡ 0 → Shows decoder p
    → ShowsTrailed (record d { decoder = decoder }) (with_chunks r p)
chunks_shown d decoder r p s none shown = record {
  chunks = shown;
  size = s.size;
  trailer = s.trailer;
  front = λ some. absurd (omega (arith, some, s.size, none));
}

-- the reading of them
pub chunks_read : (name : List ℕ) (d : TrailedDecoder) (r : Reading) (bytes : List ℕ) (n : ℕ) → ShowsTrailed d r → d.trailer.size ≡ 0 → IsBetween r → n ≤ length bytes → StandBefore r.chunks bytes n
    → run name r (take n bytes) ≡ ended name (with_chunks r (chunks.run r.chunks (take n bytes)))
chunks_read name d r bytes n s none between within before =
    run_taken name r bytes n (sym s.size ∙ none) between within before

-- what a sink got of them
pub chunks_got : (name : List ℕ) (d : TrailedDecoder) (r : Reading) (bytes old new : List ℕ) (n : ℕ) → ShowsTrailed d r → d.trailer.size ≡ 0 → IsBetween r → n ≤ length bytes → StandBefore r.chunks bytes n
    → Keeps old new (afresh r.chunks) (chunks.run (afresh r.chunks) (take n bytes)) → (run name r (take n bytes)).chunks.held ≡ r.chunks.held ++ got old new
chunks_got name d r bytes old new n s none between within before keeps =
    let gave : got old new ≡ (chunks.run (afresh r.chunks) (take n bytes)).held =
    got_by old new (chunks.run (afresh r.chunks) (take n bytes)).held (keeps old (sym (append-nil old))) in
    ap (λ (q : Reading). q.chunks.held) (chunks_read name d r bytes n s none between within before)
    ∙ ended_held name (with_chunks r (chunks.run r.chunks (take n bytes)))
    ∙ held_behind r.chunks (take n bytes)
    ∙ ap (λ t. r.chunks.held ++ t) (sym gave)

-- the place behind them is between
pub chunks_between : (name : List ℕ) (d : TrailedDecoder) (r : Reading) (bytes : List ℕ) (n : ℕ) → ShowsTrailed d r → d.trailer.size ≡ 0 → IsBetween r → n ≤ length bytes → StandBefore r.chunks bytes n
    → IsBetween (run name r (take n bytes))
chunks_between name d r bytes n s none between within before =
    subst IsBetween (sym (chunks_read name d r bytes n s none between within before)) (ended_between name (with_chunks r (chunks.run r.chunks (take n bytes))))

-- why no more of them was taken
stops_parts : (one other : Bool) → (one || other) ≡ true → (one ≡ true) ⊎ (other ≡ true)
stops_parts true other is = inl refl
stops_parts false other is = inr is

pub chunks_stopped : (n long : ℕ) (place : Place) (old new : TrailedDecoder) → old.decoder.place ≡ place → old.trailer.size ≡ 0 → (n ≡ long) ⊎ (stops true place ≡ true)
    → (old.trailer.size ≡ 0 → is_at_end old.decoder.place.phase ≡ true → (0 < new.trailer.size) ⊎ (is_closed new.decoder.place ≡ true))
    → (is_at_end old.decoder.place.phase ≡ false → new ≡ old)
    → (n ≡ long) ⊎ ((0 < new.trailer.size) ⊎ (is_closed new.decoder.place ≡ true))
chunks_stopped n long place old new there none (inl all) shut same = inl all
chunks_stopped n long place old new there none (inr stop) shut same =
    inr (elim (cases_Bool (is_at_end old.decoder.place.phase)) [
      | inl at ↦ shut none at
      | inr elsewhere ↦
          ⊎_elim
          (λ (closed : is_closed place ≡ true). inr (ap (λ (d : TrailedDecoder). is_closed d.decoder.place) (same elsewhere) ∙ ap is_closed there ∙ closed))
          (λ (at : is_at_end place.phase ≡ true). absurd (false≢true (sym elsewhere ∙ ap (λ (q : Place). is_at_end q.phase) there ∙ at)))
          (stops_parts (is_closed place) (is_at_end place.phase) stop)
    ])

-- ---- their end

-- elsewhere nothing happens
pub same_shown : (name : List ℕ) (d : TrailedDecoder) (r : Reading) → ShowsTrailed d r → is_at_end d.decoder.place.phase ≡ false → ShowsTrailed d (ended name r)
same_shown name d r s elsewhere =
    subst (ShowsTrailed d) (sym (ended_same name r (ap (λ (place : Place). is_at_end place.phase) (sym s.chunks.place) ∙ elsewhere))) s

-- there something is wrong, or not
ended_shown : (name : List ℕ) (d new : TrailedDecoder) (r : Reading) (fault : Option Fault) → ShowsTrailed d r → is_at_end d.decoder.place.phase ≡ true
    → fault ≡ fault_at_end (length name) d.decoder.place (sha256 r.chunks.current) → ShowsTrailed new (ended_by fault r (chained d.decoder.place (sha256 r.chunks.current)))
    → ShowsTrailed new (ended name r)
unfolding ended
ended_shown name d new r fault s at is shown =
    let there : is_at_end r.chunks.place.phase ≡ true = ap (λ (place : Place). is_at_end place.phase) (sym s.chunks.place) ∙ at in
    rw there
    (subst (λ (f : Option Fault). ShowsTrailed new (ended_by f r (chained r.chunks.place (sha256 r.chunks.current))))
    (is ∙ ap (λ (place : Place). fault_at_end (length name) place (sha256 r.chunks.current)) s.chunks.place)
    (subst (λ (place : Place). ShowsTrailed new (ended_by fault r (chained place (sha256 r.chunks.current)))) s.chunks.place shown))

pub fault_shown : (name : List ℕ) (d : TrailedDecoder) (decoder : Decoder) (place : Place) (r : Reading) (fault : Fault) → ShowsTrailed d r → is_at_end d.decoder.place.phase ≡ true
    → ((current : List ℕ) → Holds256 d.decoder.hash current → (Some fault ≡ fault_at_end (length name) d.decoder.place (sha256 current)) × (decoder.place ≡ chained d.decoder.place (sha256 current)) × Holds256 decoder.hash [])
    → place ≡ refused decoder.place fault → ShowsTrailed (record d { decoder = record decoder { place = place } }) (ended name r)
fault_shown name d decoder place r fault s at gave is =
    let all = gave r.chunks.current s.chunks.hash in
    ended_shown name d (record d { decoder = record decoder { place = place } }) r (Some fault) s at all.0
    (record {
      chunks = record { place = is ∙ ap (λ (q : Place). refused q fault) all.1; hash = all.2 };
      size = s.size;
      trailer = s.trailer;
      front = λ some. s.front some ∙ ap (λ (q : Place). q.span.taken) (sym s.chunks.place);
    })

pub over_shown : (name : List ℕ) (d : TrailedDecoder) (decoder : Decoder) (place : Place) (trailer : TrailerState) (r : Reading) → ShowsTrailed d r → is_at_end d.decoder.place.phase ≡ true
    → ((current : List ℕ) → Holds256 d.decoder.hash current → (None ≡ fault_at_end (length name) d.decoder.place (sha256 current)) × (decoder.place ≡ chained d.decoder.place (sha256 current)) × Holds256 decoder.hash [])
    → place ≡ moved decoder.place phases.Over → trailer ≡ record { bytes = []; size = d.decoder.place.span.whole - d.decoder.place.span.taken; front = d.decoder.place.span.taken }
    → ShowsTrailed (record { decoder = record decoder { place = place }; trailer = trailer }) (ended name r)
over_shown name d decoder place trailer r s at gave is there =
    let all = gave r.chunks.current s.chunks.hash in
    ended_shown name d (record { decoder = record decoder { place = place }; trailer = trailer }) r None s at all.0
    (record {
      chunks = record { place = is ∙ ap (λ (q : Place). moved q phases.Over) all.1; hash = all.2 };
      size = ap (λ (t : TrailerState). t.size) there;
      trailer = ap (λ (t : TrailerState). t.bytes) there;
      front = λ some. ap (λ (t : TrailerState). t.front) there;
    })

-- ---- the trailer

-- bytes of the trailer have come
pub trailer_shown : (d : TrailedDecoder) (r : Reading) (more : List ℕ) (trailer : TrailerState) → ShowsTrailed d r → trailer ≡ record d.trailer { bytes = d.trailer.bytes ++ more }
    → (new : TrailedDecoder) → new.decoder ≡ d.decoder → new.trailer ≡ trailer → ShowsTrailed new (spelled r more)
trailer_shown d r more trailer s is new decoder there = record {
  chunks = subst (λ (k : Decoder). Shows k r.chunks) (sym decoder) s.chunks;
  size = ap (λ (t : TrailerState). t.size) (there ∙ is) ∙ s.size;
  trailer = ap (λ (t : TrailerState). t.bytes) (there ∙ is) ∙ ap (λ t. t ++ more) s.trailer;
  front = λ some. ap (λ (t : TrailerState). t.front) (there ∙ is) ∙ s.front some;
}

-- the front of a piece that is to come
pub trailer_fed : (name : List ℕ) (d mid new : TrailedDecoder) (r : Reading) (bytes : List ℕ) (n : ℕ) → ShowsTrailed d r → nat_lt (length d.trailer.bytes) d.trailer.size ≡ true
    → n ≡ min (d.trailer.size - length d.trailer.bytes) (length bytes) → mid.decoder ≡ d.decoder → mid.trailer ≡ record d.trailer { bytes = d.trailer.bytes ++ take n bytes }
    → ((q : Reading) → ShowsTrailed mid q → ShowsTrailed new (judged name q)) → ShowsTrailed new (run name r bytes)
trailer_fed name d mid new r bytes n s more is decoder there judge =
    let open' : nat_lt (length r.trailer) r.size ≡ true = ap (λ (t : List ℕ). nat_lt (length t) r.size) (sym s.trailer) ∙ ap (nat_lt (length d.trailer.bytes)) (sym s.size) ∙ more in
    let count : n ≡ min (r.size - length r.trailer) (length bytes) =
    is ∙ ap (λ k. min (k - length d.trailer.bytes) (length bytes)) s.size ∙ ap (λ (t : List ℕ). min (r.size - length t) (length bytes)) s.trailer in
    subst (ShowsTrailed new) (sym (trailer_read name r bytes n open' count))
    (judge (spelled r (take n bytes)) (trailer_shown d r (take n bytes) mid.trailer s there mid decoder refl))

-- a whole one reads no more
pub trailer_full : (name : List ℕ) (d : TrailedDecoder) (r : Reading) (bytes : List ℕ) → ShowsTrailed d r → 0 < r.size → nat_lt (length d.trailer.bytes) d.trailer.size ≡ false → ShowsTrailed d (run name r bytes)
trailer_full name d r bytes s some full =
    let full' : nat_lt (length r.trailer) r.size ≡ false = ap (λ (t : List ℕ). nat_lt (length t) r.size) (sym s.trailer) ∙ ap (nat_lt (length d.trailer.bytes)) (sym s.size) ∙ full in
    subst (ShowsTrailed d) (sym (run_behind name r bytes some full')) s

-- judged, where it is whole
pub open_judged : (name : List ℕ) (d : TrailedDecoder) (r : Reading) → ShowsTrailed d r → nat_lt (length d.trailer.bytes) d.trailer.size ≡ true → ShowsTrailed d (judged name r)
open_judged name d r s more =
    let open' : nat_lt (length r.trailer) r.size ≡ true = ap (λ (t : List ℕ). nat_lt (length t) r.size) (sym s.trailer) ∙ ap (nat_lt (length d.trailer.bytes)) (sym s.size) ∙ more in
    subst (ShowsTrailed d) (sym (judged_open name r open')) s

whole_judged : (name : List ℕ) (d new : TrailedDecoder) (r : Reading) (fault : Option Fault) → ShowsTrailed d r → nat_lt (length d.trailer.bytes) d.trailer.size ≡ false
    → fault ≡ trailer_fault d.decoder.place.chain name d.trailer.bytes → ShowsTrailed new (judged_by fault r) → ShowsTrailed new (judged name r)
whole_judged name d new r fault s full is shown =
    let full' : nat_lt (length r.trailer) r.size ≡ false = ap (λ (t : List ℕ). nat_lt (length t) r.size) (sym s.trailer) ∙ ap (nat_lt (length d.trailer.bytes)) (sym s.size) ∙ full in
    let same : fault ≡ trailer_fault r.chunks.place.chain name r.trailer =
    is ∙ ap (λ (place : Place). trailer_fault place.chain name d.trailer.bytes) s.chunks.place ∙ ap (trailer_fault r.chunks.place.chain name) s.trailer in
    subst (ShowsTrailed new) (sym (judged_whole name r full' ∙ ap (λ (f : Option Fault). judged_by f r) (sym same))) shown

pub wrong_judged : (name : List ℕ) (d : TrailedDecoder) (place : Place) (r : Reading) (fault : Fault) → ShowsTrailed d r → nat_lt (length d.trailer.bytes) d.trailer.size ≡ false
    → Some fault ≡ trailer_fault d.decoder.place.chain name d.trailer.bytes → place ≡ refused d.decoder.place fault
    → ShowsTrailed (record d { decoder = record d.decoder { place = place } }) (judged name r)
wrong_judged name d place r fault s full is there =
    whole_judged name d (record d { decoder = record d.decoder { place = place } }) r (Some fault) s full is
    (record {
      chunks = record { place = there ∙ ap (λ (q : Place). refused q fault) s.chunks.place; hash = s.chunks.hash };
      size = s.size;
      trailer = s.trailer;
      front = s.front;
    })

pub right_judged : (name : List ℕ) (d : TrailedDecoder) (r : Reading) → ShowsTrailed d r → nat_lt (length d.trailer.bytes) d.trailer.size ≡ false
    → None ≡ trailer_fault d.decoder.place.chain name d.trailer.bytes → ShowsTrailed d (judged name r)
right_judged name d r s full is = whole_judged name d d r None s full is s

-- ---- both

-- the rest of a piece
rest_of : (name : List ℕ) (r : Reading) (bytes : List ℕ) (n : ℕ) → run name r bytes ≡ run name (run name r (take n bytes)) (take (length bytes - n) (drop n bytes))
rest_of name r bytes n =
    ap (run name r) (sym (take-append-drop n bytes))
    ∙ run-append name r (take n bytes) (drop n bytes)
    ∙ ap (run name (run name r (take n bytes))) (sym (take_rest bytes n))

-- where no trailer has begun, the rest is not read
rest_unread : (name : List ℕ) (r : Reading) (d : TrailedDecoder) (bytes : List ℕ) (n : ℕ) → ShowsTrailed d (run name r (take n bytes)) → IsBetween (run name r (take n bytes)) → d.trailer.size ≡ 0
    → (n ≡ length bytes) ⊎ ((0 < d.trailer.size) ⊎ (is_closed d.decoder.place ≡ true)) → run name r bytes ≡ run name r (take n bytes)
rest_unread name r d bytes n s between none (inl all) =
    ap (run name r) (sym (ap (λ k. take k bytes) all ∙ take_all (length bytes) bytes (omega arith)))
rest_unread name r d bytes n s between none (inr (inl some)) = absurd (omega (arith, some, none))
rest_unread name r d bytes n s between none (inr (inr closed)) =
    rest_of name r bytes n
    ∙ run_shut_chunks name (run name r (take n bytes)) (take (length bytes - n) (drop n bytes)) (sym s.size ∙ none) between
    (ap is_closed (sym s.chunks.place) ∙ closed)

-- the decoder shows the whole piece
pub both_shown : (name : List ℕ) (r : Reading) (d new : TrailedDecoder) (bytes : List ℕ) (n : ℕ) → ShowsTrailed d (run name r (take n bytes)) → IsBetween (run name r (take n bytes))
    → (n ≡ length bytes) ⊎ ((0 < d.trailer.size) ⊎ (is_closed d.decoder.place ≡ true))
    → ((q : Reading) → ShowsTrailed d q → 0 < q.size → ShowsTrailed new (run name q (take (length bytes - n) (drop n bytes))))
    → (d.trailer.size ≡ 0 → new ≡ d) → ShowsTrailed new (run name r bytes)
both_shown name r d new bytes n s between all read same = elim (cases_lt 0 d.trailer.size) [
  | inl some ↦
      subst (ShowsTrailed new) (sym (rest_of name r bytes n))
      (read (run name r (take n bytes)) s (omega (arith, some, s.size)))
  | inr none ↦
      let zero : d.trailer.size ≡ 0 = omega (arith, none) in
      subst (λ (k : TrailedDecoder). ShowsTrailed k (run name r bytes)) (sym (same zero))
      (subst (ShowsTrailed d) (sym (rest_unread name r d bytes n s between zero all)) s)
]

-- and no more data was given
pub both_held : (name : List ℕ) (r : Reading) (d : TrailedDecoder) (bytes : List ℕ) (n : ℕ) → ShowsTrailed d (run name r (take n bytes)) → IsBetween (run name r (take n bytes))
    → (n ≡ length bytes) ⊎ ((0 < d.trailer.size) ⊎ (is_closed d.decoder.place ≡ true)) → (run name r bytes).chunks.held ≡ (run name r (take n bytes)).chunks.held
both_held name r d bytes n s between all = elim (cases_lt 0 d.trailer.size) [
  | inl some ↦
      ap (λ (q : Reading). q.chunks.held) (rest_of name r bytes n)
      ∙ run_trailer_held name (run name r (take n bytes)) (take (length bytes - n) (drop n bytes)) (omega (arith, some, s.size))
  | inr none ↦
      let zero : d.trailer.size ≡ 0 = omega (arith, none) in
      ap (λ (q : Reading). q.chunks.held) (rest_unread name r d bytes n s between zero all)
]
