-- What is accepted with a trailer is a body, each body is accepted, and what is refused begins none.
use Rattle.std.proofs.Common.{◌≡◌, ℕ, ◌+◌, ◌-◌, ◌<◌, ◌≤◌, ◌⊎◌, ⊎_elim, Bool, true, false, not, nat_lt, nat_le, if◌then◌else◌, List, [], ◌∷◌, ◌++◌, length, take, drop, min, refl, sym, ap, subst, ◌∙◌, arith, length-append, inl, inr, lt-ltb, ltb-true, ltb-false, leb-true, le-leb, Option, Some, None}
use Rattle.std.proofs.lemmas.Bool.{and_parts, and_from, cases_Bool, false≢true}
use Rattle.std.proofs.lemmas.List.{length-take, length-take-le, take_all, take-append-drop}
use Rattle.std.proofs.lemmas.Option.{none-some}
use Rattle.std.proofs.lemmas.Slice.Eq.{bytes_eq-Decides}
use Rattle.std.proofs.Math.Seq.{take-append-add}
use Rattle.std.specs.Str.{bytes_eq}
use Rattle.sha2.specs.Sha256.{sha256}
use Rattle.s3_terms.specs.declared.code.Code.{Code}
use Rattle.s3_signing.specs.Chain.{Link, linked, next_signature, trailer_signature}
use Rattle.s3_unsigned_chunks.specs.Finality.{IsDecided}
use Rattle.s3_unsigned_chunks.specs.Verdict.{Verdict, Refused, Accepted, Open, accepts}
use Rattle.s3_aws_chunked.specs.Chunk.{Chunk, chunks_text, data_of, first_line}
use Rattle.s3_aws_chunked.specs.Body.{link_after}
use Rattle.s3_aws_chunked.specs.Count.{Count}
use Rattle.s3_aws_chunked.specs.Trailer.{IsTrailer, checksum_line, is_room, signed_line, told_in, trailer_fault, value_of_trailer}
use Rattle.s3_aws_chunked.specs.Decoder.{Progress, StandBefore, fault_at, is_at_end, moved, started, stepped}
use Rattle.s3_aws_chunked.specs.Decoder as chunks
use Rattle.s3_aws_chunked.specs.Trailed.{Reading, TrailedTerms, begun, chained, ended, ended_by, fault_at_end, is_whole, judged, refused_by, run, shut, spelled, stopped, taken_in, verdict_at, verdict_in, verdict_of}
use Rattle.s3_aws_chunked.specs.TrailedBody.{IsTrailedBody}
use Rattle.s3_aws_chunked.specs.TrailedReader.{IsBetween}
use Rattle.s3_aws_chunked.specs.declared.place.Place.{Place}
use Rattle.s3_aws_chunked.specs.declared.phase.Fault.{Fault}
use Rattle.s3_aws_chunked.specs.declared.phase.Fault.TheVariants.{Invalid, Forged, Incomplete}
use Rattle.s3_aws_chunked.proofs.KnownLemmas.{Going}
use Rattle.s3_aws_chunked.proofs.ParseLemmas.{link_push, signed_last, signed_push}
use Rattle.s3_aws_chunked.proofs.TrailerLemmas.{gap_length, long_trailer, trailer_passes, trailer_right, trailer_value, value_bounds}
use Rattle.s3_aws_chunked.proofs.TrailedRunLemmas.{byte_of_chunks, ended_same, judged_same, run-append, run_chunks, run_shut_chunks, run_trailer, with_chunks}
use Rattle.s3_aws_chunked.proofs.TrailedKeptLemmas.{sound_begun, sound_between}
use Rattle.s3_aws_chunked.proofs.TrailedFinalLemmas.{bytes_read, refused_front, verdicts_stay}
use Rattle.s3_aws_chunked.proofs.TrailedFrontLemmas.{AtEnd, Ends, at_end, course_ends, end_going}

-- ---- the two parts of a text

-- these bytes end the first line of the last chunk, and those are behind it
pub record Cut (name : List ℕ) (r : Reading) (bytes : List ℕ) : Type 0 where
  pub front : List ℕ
  pub rest : List ℕ
  pub whole : bytes ≡ front ++ rest
  pub there : is_at_end (chunks.run r.chunks front).place.phase ≡ true
  pub read : run name r bytes ≡ run name (ended name (with_chunks r (chunks.run r.chunks front))) rest

-- all bytes are of the chunks, or there is such a place
parted : (name : List ℕ) (r : Reading) (bytes : List ℕ) → r.size ≡ 0 → IsBetween r → (run name r bytes ≡ with_chunks r (chunks.run r.chunks bytes)) ⊎ Cut name r bytes
parted name r [] none between = inl refl
parted name r (byte ∷ bytes) none between =
    let next : Reading = with_chunks r (stepped r.chunks byte) in
    elim (cases_Bool (is_at_end next.chunks.place.phase)) [
      | inl is ↦ inr (record {
        front = byte ∷ [];
        rest = bytes;
        whole = refl;
        there = is;
        read = ap (λ q. run name q bytes) (byte_of_chunks name r byte none);
      })
      | inr going ↦
          let first : run name r (byte ∷ bytes) ≡ run name next bytes = ap (λ q. run name q bytes) (byte_of_chunks name r byte none ∙ ended_same name next going) in
          ⊎_elim
          (λ (same : run name next bytes ≡ with_chunks next (chunks.run next.chunks bytes)). inl (first ∙ same))
          (λ (cut : Cut name next bytes). inr (record {
            front = byte ∷ cut.front;
            rest = cut.rest;
            whole = ap (λ t. byte ∷ t) cut.whole;
            there = cut.there;
            read = first ∙ cut.read;
          }))
          (parted name next bytes none going)
    ]

-- ---- the end of the chunks

-- what is right where nothing is wrong there
record Ended (name : ℕ) (place : Place) (hash : List ℕ) : Type 0 where
  signed : place.signature ≡ next_signature place.chain hash
  all : place.left ≡ 0
  room : is_room name (place.span.whole - place.span.taken) ≡ true

end_tests : (signed short room : Bool) → (if not signed then Some Forged else if short then Some Incomplete else if not room then Some Invalid else None) ≡ None → (signed ≡ true) × (short ≡ false) × (room ≡ true)
end_tests false short room is = absurd (none-some Forged (sym is))
end_tests true true room is = absurd (none-some Incomplete (sym is))
end_tests true false false is = absurd (none-some Invalid (sym is))
end_tests true false true is = (refl, refl, refl)

end_right : (name : ℕ) (place : Place) (hash : List ℕ) → fault_at_end name place hash ≡ None → Ended name place hash
unfolding fault_at_end
end_right name place hash none =
    let all = end_tests (bytes_eq place.signature (next_signature place.chain hash)) (nat_lt 0 place.left) (is_room name (place.span.whole - place.span.taken)) none in
    record {
      signed = (bytes_eq-Decides place.signature (next_signature place.chain hash)).0 all.0;
      all = omega (arith, ltb-false _ _ all.1);
      room = all.2;
    }

end_passes : (name : ℕ) (place : Place) (hash : List ℕ) → Ended name place hash → fault_at_end name place hash ≡ None
unfolding fault_at_end
end_passes name place hash e =
    let signed : bytes_eq place.signature (next_signature place.chain hash) ≡ true = (bytes_eq-Decides place.signature (next_signature place.chain hash)).1 e.signed in
    rw (signed, e.all, e.room) refl

ended_there : (name : List ℕ) (r : Reading) → is_at_end r.chunks.place.phase ≡ true → ended name r ≡ ended_by (fault_at_end (length name) r.chunks.place (sha256 r.chunks.current)) r (chained r.chunks.place (sha256 r.chunks.current))
unfolding ended
ended_there name r is = rw is refl

-- ---- what is accepted

-- accepted, with this
pub record Taken (name : List ℕ) (r : Reading) (held value : List ℕ) : Type 0 where
  pub right : fault_at r.chunks.place.phase ≡ None
  pub whole : is_whole r.size r.trailer ≡ true
  pub given : r.chunks.held ≡ held
  pub said : value_of_trailer name r.trailer ≡ value

abbrev data_in : Verdict → List ℕ
data_in (Accepted held value) = held
data_in (Open held) = held
data_in (Refused place code) = []

abbrev value_at : Verdict → List ℕ
value_at (Accepted held value) = value
value_at (Open held) = []
value_at (Refused place code) = []

taken_as : (fault : Option Fault) (whole : Bool) (taken : ℕ) (has said held value : List ℕ) → verdict_at fault whole taken has said ≡ Accepted held value → (fault ≡ None) × (whole ≡ true) × (has ≡ held) × (said ≡ value)
taken_as (Some fault) whole taken has said held value is = absurd (false≢true (ap accepts is))
taken_as None true taken has said held value is = (refl, refl, ap data_in is, ap value_at is)
taken_as None false taken has said held value is = absurd (false≢true (ap accepts is))

taken_of : (name : List ℕ) (r : Reading) (held value : List ℕ) → verdict_in name r ≡ Accepted held value → Taken name r held value
taken_of name r held value is =
    let all = taken_as (fault_at r.chunks.place.phase) (is_whole r.size r.trailer) (taken_in r) r.chunks.held (value_of_trailer name r.trailer) held value is in
    record { right = all.0; whole = all.1; given = all.2; said = all.3 }

-- the end of the input accepts nothing
stopped_taken : (name : List ℕ) (r : Reading) (held value : List ℕ) (test : Bool) → shut r ≡ test → verdict_in name (stopped r) ≡ Accepted held value → Taken name r held value
stopped_taken name r held value true h is = taken_of name r held value (sym (ap (verdict_in name) (same h)) ∙ is)
  where
    same : shut r ≡ true → stopped r ≡ r
    same k = rw k refl
stopped_taken name r held value false h is = absurd (false≢true (sym (ap (λ (q : Reading). accepts (verdict_in name q)) (other h)) ∙ ap accepts is))
  where
    other : shut r ≡ false → stopped r ≡ refused_by r Incomplete
    other k = rw k refl

bytes_taken : (terms : TrailedTerms) (bytes : List ℕ) (ended' : Bool) (held value : List ℕ) → verdict_of terms bytes ended' ≡ Accepted held value → Taken terms.name (bytes_read terms bytes) held value
bytes_taken terms bytes true held value is = stopped_taken terms.name (bytes_read terms bytes) held value (shut (bytes_read terms bytes)) refl is
bytes_taken terms bytes false held value is = taken_of terms.name (bytes_read terms bytes) held value is

-- a whole trailer is judged right
judged_right : (name : List ℕ) (r : Reading) (fault : Option Fault) → trailer_fault r.chunks.place.chain name r.trailer ≡ fault → nat_lt (length r.trailer) r.size ≡ false → fault_at (judged name r).chunks.place.phase ≡ None → fault ≡ None
unfolding judged
judged_right name r None h full right = refl
judged_right name r (Some fault) h full right =
    absurd (none-some fault (sym right ∙ (rw (full, h) refl)))

whole_parts : (size : ℕ) (trailer : List ℕ) → is_whole size trailer ≡ true → (0 < size) × (nat_lt (length trailer) size ≡ false)
whole_parts size trailer is =
    let both = and_parts (nat_lt 0 size) (not (nat_lt (length trailer) size)) is in
    (ltb-true _ _ both.0, full (nat_lt (length trailer) size) both.1)
  where
    full : (test : Bool) → not test ≡ true → test ≡ false
    full true is' = absurd (false≢true is')
    full false is' = refl

module _ (terms : TrailedTerms) (bytes held value : List ℕ) (taken : Taken terms.name (bytes_read terms bytes) held value) (cut : Cut terms.name (begun terms) bytes) where
  abbrev p : Progress
  p = chunks.run (started terms.chunks) cut.front

  abbrev there : Reading
  there = with_chunks (begun terms) p

  abbrev hash : List ℕ
  hash = sha256 p.current

  abbrev behind : Option Fault → Reading
  behind fault = ended_by fault there (chained p.place hash)

  read_as : (fault : Option Fault) → fault_at_end (length terms.name) p.place hash ≡ fault → bytes_read terms bytes ≡ run terms.name (behind fault) cut.rest
  read_as fault is = cut.read ∙ ap (λ q. run terms.name q cut.rest) (ended_there terms.name there cut.there ∙ ap behind is)

  -- nothing was wrong at the end of the chunks
  passes : (fault : Option Fault) → fault_at_end (length terms.name) p.place hash ≡ fault → fault ≡ None
  passes None is = refl
  passes (Some fault) is =
      let same : bytes_read terms bytes ≡ behind (Some fault) =
      read_as (Some fault) is ∙ run_shut_chunks terms.name (behind (Some fault)) cut.rest refl refl refl in
      absurd (none-some fault (sym taken.right ∙ ap (λ (q : Reading). fault_at q.chunks.place.phase) same))

  none_wrong : fault_at_end (length terms.name) p.place hash ≡ None
  none_wrong = passes (fault_at_end (length terms.name) p.place hash) refl

  abbrev size : ℕ
  size = p.place.span.whole - p.place.span.taken

  abbrev trailer : List ℕ
  trailer = take size cut.rest

  right : Ended (length terms.name) p.place hash
  right = end_right (length terms.name) p.place hash none_wrong

  some : 0 < size
  some = omega (arith, leb-true _ _ (and_parts (nat_le (length terms.name + 96) size) (nat_le size (length terms.name + 160)) right.room).0)

  open' : nat_lt 0 size ≡ true
  open' = lt-ltb 0 size some

  -- the trailer was read and judged
  read : bytes_read terms bytes ≡ judged terms.name (spelled (behind None) trailer)
  read =
      let all : size - 0 ≡ size = omega arith in
      read_as None none_wrong
      ∙ run_trailer terms.name (behind None) cut.rest open'
      ∙ ap (λ n. judged terms.name (spelled (behind None) (take n cut.rest))) all

  abbrev last_read : Reading
  last_read = spelled (behind None) trailer

  full : nat_lt (length trailer) size ≡ false
  full =
      let same = judged_same terms.name last_read in
      let whole = (whole_parts (bytes_read terms bytes).size (bytes_read terms bytes).trailer taken.whole).1 in
      ap (λ n. nat_lt (length trailer) n) (sym same.size) ∙ ap (λ (t : List ℕ). nat_lt (length t) (judged terms.name last_read).size) (sym same.trailer)
      ∙ ap (λ (q : Reading). nat_lt (length q.trailer) q.size) (sym read) ∙ whole

  good : trailer_fault (chained p.place hash).chain terms.name trailer ≡ None
  good = judged_right terms.name last_read (trailer_fault (chained p.place hash).chain terms.name trailer) refl full (ap (λ (q : Reading). fault_at q.chunks.place.phase) (sym read) ∙ taken.right)

  going : Going terms.chunks cut.front p
  going = end_going terms.chunks cut.front cut.there

  pub accepted : (terms.chunks.encoded ≤ length bytes) × IsTrailedBody terms (take terms.chunks.encoded bytes) held value
  accepted =
      let c = going.course in
      let e = course_ends terms.chunks cut.front p c cut.there in
      let r = trailer_right (chained p.place hash).chain terms.name trailer good in
      let count : p.place.span.taken ≡ length cut.front = ap (λ (s : Count). s.taken) c.span in
      let all : p.place.span.whole ≡ terms.chunks.encoded = ap (λ (s : Count). s.whole) c.span in
      let enough : size ≤ length cut.rest = at_least size cut.rest (ltb-false _ _ full) in
      let two : length bytes ≡ length cut.front + length cut.rest = ap length cut.whole ∙ length-append cut.front cut.rest in
      let most : terms.chunks.encoded ≡ length cut.front + size = omega (arith, count, all, going.below) in
      let text : take terms.chunks.encoded bytes ≡ cut.front ++ trailer =
      ap (λ n. take n bytes) most ∙ ap (take (length cut.front + size)) cut.whole ∙ take-append-add cut.front cut.rest size in
      let come : terms.chunks.encoded ≤ length bytes = omega (arith, most, enough, two) in
      let chunk : Chunk = record { size = e.size; signature = p.place.signature; bytes = [] } in
      let chain : p.place.chain ≡ link_after terms.chunks.seed c.chunks = c.chain in
      let empty : hash ≡ sha256 [] = ap sha256 e.fresh in
      let own : chunk.signature ≡ next_signature (link_after terms.chunks.seed c.chunks) (sha256 []) =
      right.signed ∙ ap (λ (k : Link). next_signature k hash) chain ∙ ap (next_signature (link_after terms.chunks.seed c.chunks)) empty in
      let goes : (chained p.place hash).chain ≡ link_after terms.chunks.seed (c.chunks ++ chunk ∷ []) =
      ap (linked p.place.chain) (sym right.signed) ∙ ap (λ (k : Link). linked k p.place.signature) chain ∙ sym (link_push terms.chunks.seed c.chunks chunk) in
      let said : value_of_trailer terms.name trailer ≡ value =
      ap (value_of_trailer terms.name) (sym (ap (λ (q : Reading). q.trailer) read ∙ (judged_same terms.name last_read).trailer)) ∙ taken.said in
      let spelled' : told_in terms.name (checksum_line trailer) ≡ value = sym (trailer_value terms.name trailer _ r.seal r.is) ∙ said in
      let given : held ≡ data_of c.chunks =
      sym taken.given ∙ ap (λ (q : Reading). q.chunks.held) read ∙ (judged_same terms.name last_read).held ∙ e.given in
      let none : p.place.left ≡ 0 = right.all in (
        come,
        record {
          chunks = c.chunks;
          last = chunk;
          trailer = trailer;
          seal = r.seal;
          each = c.each;
          form = record { size = e.form; length = e.zero; signature = c.digits };
          empty = refl;
          spelled = subst (λ v. IsTrailer terms.name trailer v r.seal) spelled' r.is;
          written = text ∙ ap (λ t. t ++ trailer) (c.written ∙ ap (λ t. chunks_text c.chunks ++ t) e.written);
          signed = signed_push terms.chunks.seed c.chunks chunk c.signed own;
          sealed = r.sealed ∙ ap (λ (k : Link). trailer_signature k (sha256 (signed_line terms.name (told_in terms.name (checksum_line trailer))))) goes
              ∙ ap (λ v. trailer_signature (link_after terms.chunks.seed (c.chunks ++ chunk ∷ [])) (sha256 (signed_line terms.name v))) spelled';
          joined = given;
          decoded = ap length given ∙ omega (arith, e.sum, none);
          encoded = length-take-le terms.chunks.encoded bytes come;
        },
      )
    where
      at_least : (n : ℕ) (rest : List ℕ) → n ≤ length (take n rest) → n ≤ length rest
      at_least n rest fits =
          let long : length (take n rest) ≡ min n (length rest) = length-take n rest in
          omega (arith, long, fits)

pub accepted_body : (terms : TrailedTerms) (bytes : List ℕ) (ended' : Bool) (held value : List ℕ) → verdict_of terms bytes ended' ≡ Accepted held value
    → (terms.chunks.encoded ≤ length bytes) × IsTrailedBody terms (take terms.chunks.encoded bytes) held value
accepted_body terms bytes ended' held value is =
    let taken = bytes_taken terms bytes ended' held value is in
    ⊎_elim
    (λ (same : bytes_read terms bytes ≡ with_chunks (begun terms) (chunks.run (started terms.chunks) bytes)).
    absurd (no_trailer (whole_parts (bytes_read terms bytes).size (bytes_read terms bytes).trailer taken.whole).0 (ap (λ (q : Reading). q.size) same)))
    (λ (cut : Cut terms.name (begun terms) bytes). accepted terms bytes held value taken cut)
    (parted terms.name (begun terms) bytes refl (sound_between terms.chunks.encoded (begun terms) (sound_begun terms)))
  where
    no_trailer : {n : ℕ} → 0 < n → n ≡ 0 → ⊥
    no_trailer some none = absurd (omega (arith, some, none))

-- ---- each body is accepted

module _ (terms : TrailedTerms) (text held value : List ℕ) (body : IsTrailedBody terms text held value) where
  abbrev front : List ℕ
  front = chunks_text body.chunks ++ first_line body.last.size body.last.signature

  abbrev q : Progress
  q = chunks.run (started terms.chunks) front

  abbrev end_reading : Reading
  end_reading = with_chunks (begun terms) q

  abbrev end_hash : List ℕ
  end_hash = sha256 q.current

  long : length body.trailer ≡ length terms.name + length value + length body.spelled.gap + 95
  long = long_trailer terms.name body.trailer value body.seal body.spelled

  two_parts : terms.chunks.encoded ≡ length front + length body.trailer
  two_parts = sym body.encoded ∙ ap length body.written ∙ length-append front body.trailer

  stands : AtEnd terms.chunks body.chunks body.last front
  stands =
      at_end terms.chunks body.chunks body.last body.each body.form body.empty body.signed (ap length (sym body.joined) ∙ body.decoded)
      (omega (arith, two_parts, long))

  stands_ends : Ends terms.chunks q.place q.current q.held stands.going.course.chunks stands.going.course.tail
  stands_ends = course_ends terms.chunks front q stands.going.course stands.there

  room_left : q.place.span.whole - q.place.span.taken ≡ length body.trailer
  room_left =
      let count : q.place.span.taken ≡ length front = ap (λ (s : Count). s.taken) stands.going.course.span in
      let all : q.place.span.whole ≡ terms.chunks.encoded = ap (λ (s : Count). s.whole) stands.going.course.span in
      omega (arith, count, all, two_parts)

  chain_there : q.place.chain ≡ link_after terms.chunks.seed body.chunks
  chain_there = stands.going.course.chain ∙ ap (link_after terms.chunks.seed) stands.parts

  own_signature : body.last.signature ≡ next_signature (link_after terms.chunks.seed body.chunks) (sha256 [])
  own_signature = signed_last terms.chunks.seed body.chunks body.last body.signed ∙ ap (λ t. next_signature (link_after terms.chunks.seed body.chunks) (sha256 t)) body.empty

  hash_there : end_hash ≡ sha256 []
  hash_there = ap sha256 stands_ends.fresh

  signature_there : q.place.signature ≡ next_signature q.place.chain end_hash
  signature_there =
      stands.signature ∙ own_signature ∙ ap (λ (k : Link). next_signature k (sha256 [])) (sym chain_there)
      ∙ ap (next_signature q.place.chain) (sym hash_there)

  nothing_wrong : fault_at_end (length terms.name) q.place end_hash ≡ None
  nothing_wrong =
      let bounds = value_bounds value body.spelled.valued in
      let sum : length (data_of stands.going.course.chunks) ≡ terms.chunks.decoded =
      ap (λ cs. length (data_of cs)) stands.parts ∙ ap length (sym body.joined) ∙ body.decoded in
      end_passes (length terms.name) q.place end_hash (record {
        signed = signature_there;
        all = omega (arith, stands_ends.sum, sum);
        room =
            ap (is_room (length terms.name)) room_left
            ∙ and_from (nat_le (length terms.name + 96) (length body.trailer)) (nat_le (length body.trailer) (length terms.name + 160))
            (le-leb _ _ (omega (arith, long, bounds.0))) (le-leb _ _ (omega (arith, long, bounds.1, gap_length body.spelled.gap body.spelled.parted)));
      })

  abbrev behind_chunks : Reading
  behind_chunks = ended_by None end_reading (chained q.place end_hash)

  front_read : run terms.name (begun terms) front ≡ behind_chunks
  front_read =
      run_chunks terms.name (begun terms) front refl (sound_between terms.chunks.encoded (begun terms) (sound_begun terms)) stands.first
      ∙ ended_there terms.name end_reading stands.there
      ∙ ap (λ f. ended_by f end_reading (chained q.place end_hash)) nothing_wrong

  abbrev whole_reading : Reading
  whole_reading = spelled behind_chunks body.trailer

  chain_behind : (chained q.place end_hash).chain ≡ link_after terms.chunks.seed (body.chunks ++ body.last ∷ [])
  chain_behind =
      ap (linked q.place.chain) (sym signature_there ∙ stands.signature) ∙ ap (λ (k : Link). linked k body.last.signature) chain_there
      ∙ sym (link_push terms.chunks.seed body.chunks body.last)

  trailer_good : trailer_fault (chained q.place end_hash).chain terms.name body.trailer ≡ None
  trailer_good =
      ap (λ (k : Link). trailer_fault k terms.name body.trailer) chain_behind
      ∙ trailer_passes (link_after terms.chunks.seed (body.chunks ++ body.last ∷ [])) terms.name body.trailer value body.seal body.spelled body.sealed

  some_left : 0 < q.place.span.whole - q.place.span.taken
  some_left = omega (arith, room_left, long)

  filled : nat_lt (length body.trailer) (q.place.span.whole - q.place.span.taken) ≡ false
  filled = ap (nat_lt (length body.trailer)) room_left ∙ not_self (length body.trailer)
    where
      not_self : (n : ℕ) → nat_lt n n ≡ false
      not_self n = elim (cases_Bool (nat_lt n n)) [
        | inl less ↦ absurd (omega (arith, ltb-true n n less))
        | inr is' ↦ is'
      ]

  judged_none : judged terms.name whole_reading ≡ whole_reading
  unfolding judged
  judged_none = rw (filled, trailer_good) refl

  text_read : bytes_read terms text ≡ whole_reading
  text_read =
      ap (run terms.name (begun terms)) body.written
      ∙ run-append terms.name (begun terms) front body.trailer
      ∙ ap (λ r. run terms.name r body.trailer) front_read
      ∙ run_trailer terms.name behind_chunks body.trailer (lt-ltb 0 _ some_left)
      ∙ ap (λ t. judged terms.name (spelled behind_chunks t)) (take_all (q.place.span.whole - q.place.span.taken - 0) body.trailer (omega (arith, room_left)))
      ∙ judged_none

  pub text_accepted : verdict_of terms text false ≡ Accepted held value
  text_accepted =
      let whole : is_whole (q.place.span.whole - q.place.span.taken) body.trailer ≡ true = rw (lt-ltb 0 _ some_left, filled) refl in
      let given : q.held ≡ held = stands_ends.given ∙ ap data_of stands.parts ∙ sym body.joined in
      ap (verdict_in terms.name) text_read
      ∙ ap (λ w. verdict_at None w (taken_in whole_reading) q.held (value_of_trailer terms.name body.trailer)) whole
      ∙ ap (λ h. Accepted h (value_of_trailer terms.name body.trailer)) given
      ∙ ap (Accepted held) (trailer_value terms.name body.trailer value body.seal body.spelled)

pub body_accepted : (terms : TrailedTerms) (bytes : List ℕ) (ended' : Bool) (held value : List ℕ) → terms.chunks.encoded ≤ length bytes
    → IsTrailedBody terms (take terms.chunks.encoded bytes) held value → verdict_of terms bytes ended' ≡ Accepted held value
body_accepted terms bytes ended' held value come body =
    let front' : List ℕ = take terms.chunks.encoded bytes in
    let rest : List ℕ = drop terms.chunks.encoded bytes in
    let is : verdict_of terms front' false ≡ Accepted held value = text_accepted terms front' held value body in
    ap (λ t. verdict_of terms t ended') (sym (take-append-drop terms.chunks.encoded bytes))
    ∙ verdicts_stay terms front' rest ended' (subst IsDecided (sym is) tt)
    ∙ is

-- what is refused begins none
pub refused_none : (terms : TrailedTerms) (bytes : List ℕ) (place : ℕ) (code : Code) → verdict_of terms bytes false ≡ Refused place code
    → (rest held value : List ℕ) → IsTrailedBody terms (take place bytes ++ rest) held value → ⊥
refused_none terms bytes place code is rest held value body =
    let refused' = (refused_front terms bytes place code is).1 in
    let stays : verdict_of terms (take place bytes ++ rest) false ≡ Refused place code =
    verdicts_stay terms (take place bytes) rest false (subst IsDecided (sym refused') tt) ∙ refused' in
    false≢true (sym (ap accepts stays) ∙ ap accepts (text_accepted terms (take place bytes ++ rest) held value body))
