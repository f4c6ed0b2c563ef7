-- How a reader of a body with a trailer stands after one more piece.
use Rattle.std.proofs.Common.{◌≡◌, ℕ, ◌+◌, ◌<◌, ◌≤◌, ◌⊎◌, Bool, true, false, nat_lt, List, ◌++◌, length, refl, sym, ap, ◌∙◌, subst, Some, None, Option, option_map, arith, inl, inr, if◌then◌else◌, ltb-true}
use Rattle.std.proofs.lemmas.Bool.{cases_Bool, false≢true}
use Rattle.std.proofs.lemmas.Option.{none-some}
use Rattle.s3_terms.specs.declared.code.Code.{Code}
use Rattle.s3_terms.specs.declared.code.Code.TheVariants.{InternalError}
use Rattle.s3_integrity.specs.Algorithm.{header_of}
use Rattle.s3_integrity.specs.declared.algorithm.ChecksumAlgorithm.{ChecksumAlgorithm}
use Rattle.s3_integrity.specs.declared.algorithm.ChecksumAlgorithm.TheVariants.{Crc32, Crc32c, Crc64Nvme, Sha1, Sha256}
use Rattle.s3_unsigned_chunks.specs.Verdict.{accepts}
use Rattle.s3_aws_chunked.specs.Sinks.{got}
use Rattle.s3_aws_chunked.specs.Trailer.{value_of_trailer}
use Rattle.s3_aws_chunked.specs.Decoder.{code_of, fault_at, is_closed, refused}
use Rattle.s3_aws_chunked.specs.Trailed.{Reading, TrailedTerms, begun, is_shut, is_whole, reading_of, refused_by, run, shut, stopped, taken_in, verdict_at, verdict_of}
use Rattle.s3_aws_chunked.specs.TrailedReader.{IsBetween, IsDone, ShowsTrailed, Stands, fault_of, has_trailer, refusal_of, taken_by, taken_of, value_of, verdict_by}
use Rattle.s3_aws_chunked.specs.declared.place.Place.{Place}
use Rattle.s3_aws_chunked.specs.declared.phase.Fault.{Fault}
use Rattle.s3_aws_chunked.specs.declared.phase.Fault.TheVariants.{Incomplete}
use Rattle.s3_aws_chunked.specs.declared.trailed.TrailedDecoder.{TrailedDecoder}
use Rattle.s3_aws_chunked.specs.declared.trailed_reader.TrailedChunkReader.{TrailedChunkReader}
use Rattle.s3_aws_chunked.proofs.TrailedRunLemmas.{run-append}
use Rattle.s3_aws_chunked.proofs.TrailedKeptLemmas.{closed_whole, front_unshut, sound_between, sound_bytes}
use Rattle.s3_aws_chunked.proofs.TrailedFinalLemmas.{bytes_read, open_less, shut_stays}

-- the names of headers are short
pub short_name : (algorithm : ChecksumAlgorithm) → length (header_of algorithm) ≤ 32
short_name Crc32 = omega arith
short_name Crc32c = omega arith
short_name Crc64Nvme = omega arith
short_name Sha1 = omega arith
short_name Sha256 = omega arith

-- what the decoder counts
pub taken_shows : (d : TrailedDecoder) (r : Reading) → ShowsTrailed d r → taken_by d ≡ taken_in r
taken_shows d r s = elim (cases_Bool (nat_lt 0 r.size)) [
  | inl some ↦
      let some' : nat_lt 0 d.trailer.size ≡ true = ap (nat_lt 0) s.size ∙ some in
      rw (some', some) (ap (λ n. n + length d.trailer.bytes) (s.front (ltb-true _ _ some)) ∙ ap (λ (t : List ℕ). r.chunks.place.span.taken + length t) s.trailer)
  | inr none ↦
      let none' : nat_lt 0 d.trailer.size ≡ false = ap (nat_lt 0) s.size ∙ none in
      rw (none', none) (ap (λ (place : Place). place.span.taken) s.chunks.place)
]

-- what it says
pub verdict_shows : (reader : TrailedChunkReader) (terms : TrailedTerms) (bytes : List ℕ) (ended : Bool) (held : List ℕ) → Stands reader terms bytes ended held → verdict_by reader held ≡ verdict_of terms bytes ended
verdict_shows reader terms bytes ended held stands =
    let r = reading_of terms bytes ended in
    let d = reader.body in
    let s = stands.shows in
    ap (λ (f : Option Fault). verdict_at f (has_trailer reader) (taken_of reader) held (value_of reader)) (ap (λ (place : Place). fault_at place.phase) s.chunks.place)
    ∙ ap (λ w. verdict_at (fault_at r.chunks.place.phase) w (taken_of reader) held (value_of reader))
    (ap (λ n. is_whole n d.trailer.bytes) s.size ∙ ap (is_whole r.size) s.trailer)
    ∙ ap (λ n. verdict_at (fault_at r.chunks.place.phase) (is_whole r.size r.trailer) n held (value_of reader)) (taken_shows d r s)
    ∙ ap (λ h. verdict_at (fault_at r.chunks.place.phase) (is_whole r.size r.trailer) (taken_in r) h (value_of reader)) stands.given
    ∙ ap (verdict_at (fault_at r.chunks.place.phase) (is_whole r.size r.trailer) (taken_in r) r.chunks.held)
    (ap (λ n. value_of_trailer n d.trailer.bytes) stands.name ∙ ap (value_of_trailer terms.name) s.trailer)

-- ---- what a reader answers

abbrev refusal_at : Bool → Option Fault → Option Code
refusal_at lost fault = if lost then Some InternalError else option_map code_of fault

no_fault_at : (fault : Option Fault) → option_map code_of fault ≡ None → fault ≡ None
no_fault_at None none = refl
no_fault_at (Some fault) none = absurd (none-some (code_of fault) (sym none))

pub no_fault : (lost : Bool) (fault : Option Fault) → lost ≡ false → refusal_at lost fault ≡ None → fault ≡ None
no_fault true fault kept none = absurd (false≢true (sym kept))
no_fault false fault kept none = no_fault_at fault none

some_fault_at : (fault : Option Fault) (code : Code) → option_map code_of fault ≡ Some code → (whole : Bool) → is_shut fault whole ≡ true
some_fault_at None code is whole = absurd (none-some code is)
some_fault_at (Some fault) code is whole = refl

pub some_fault : (lost : Bool) (fault : Option Fault) (code : Code) (whole : Bool) → lost ≡ false → refusal_at lost fault ≡ Some code → is_shut fault whole ≡ true
some_fault true fault code whole kept is = absurd (false≢true (sym kept))
some_fault false fault code whole kept is = some_fault_at fault code is whole

unfailed_at : (fault : Option Fault) → ((code : Code) → option_map code_of fault ≡ Some code → ⊥) → fault ≡ None
unfailed_at None none = refl
unfailed_at (Some fault) none = absurd (none (code_of fault) refl)

pub unfailed : (lost : Bool) (fault : Option Fault) → lost ≡ false → ((code : Code) → refusal_at lost fault ≡ Some code → ⊥) → fault ≡ None
unfailed true fault kept none = absurd (false≢true (sym kept))
unfailed false fault kept none = unfailed_at fault none

-- ---- one more piece

pub between_bytes : (terms : TrailedTerms) (bytes : List ℕ) → IsBetween (bytes_read terms bytes)
between_bytes terms bytes = sound_between terms.chunks.encoded (bytes_read terms bytes) (sound_bytes terms bytes)

-- the reading of all bytes
pub fed_reading : (kept : List ℕ) (terms : TrailedTerms) (bytes piece : List ℕ) → kept ≡ terms.name → run kept (bytes_read terms bytes) piece ≡ bytes_read terms (bytes ++ piece)
fed_reading kept terms bytes piece same =
    ap (λ n. run n (bytes_read terms bytes) piece) same ∙ sym (run-append terms.name (begun terms) bytes piece)

pub fed_held : (kept : List ℕ) (terms : TrailedTerms) (bytes piece held old new : List ℕ) → kept ≡ terms.name → held ≡ (bytes_read terms bytes).chunks.held
    → (run kept (bytes_read terms bytes) piece).chunks.held ≡ (bytes_read terms bytes).chunks.held ++ got old new → held ++ got old new ≡ (bytes_read terms (bytes ++ piece)).chunks.held
fed_held kept terms bytes piece held old new same had gave =
    ap (λ h. h ++ got old new) had ∙ sym gave ∙ ap (λ (r : Reading). r.chunks.held) (fed_reading kept terms bytes piece same)

-- a reader that has refused stands after anything more
pub still_read : (reader : TrailedChunkReader) (terms : TrailedTerms) (bytes piece held : List ℕ) (code : Code) → Stands reader terms bytes false held → refusal_of reader ≡ Some code → bytes_read terms (bytes ++ piece) ≡ bytes_read terms bytes
still_read reader terms bytes piece held code stands is =
    let r = bytes_read terms bytes in
    let there : fault_of reader ≡ fault_at r.chunks.place.phase = ap (λ (place : Place). fault_at place.phase) stands.shows.chunks.place in
    shut_stays terms bytes piece
    (ap (λ f. is_shut f (is_whole r.size r.trailer)) (sym there) ∙ some_fault reader.lost (fault_of reader) code (is_whole r.size r.trailer) stands.kept is)

-- where it took no more, and has not refused, it is done
pub done_from : (d : TrailedDecoder) (terms : TrailedTerms) (bytes : List ℕ) → ShowsTrailed d (bytes_read terms bytes) → fault_at d.decoder.place.phase ≡ None
    → nat_lt (length d.trailer.bytes) d.trailer.size ≡ false → (0 < d.trailer.size) ⊎ (is_closed d.decoder.place ≡ true) → is_whole d.trailer.size d.trailer.bytes ≡ true
done_from d terms bytes s none full closed' =
    let r = bytes_read terms bytes in
    let same : is_whole d.trailer.size d.trailer.bytes ≡ is_whole r.size r.trailer = ap (λ n. is_whole n d.trailer.bytes) s.size ∙ ap (is_whole r.size) s.trailer in
    same
    ∙ closed_whole terms.chunks.encoded r (sound_bytes terms bytes) (ap (λ (place : Place). fault_at place.phase) (sym s.chunks.place) ∙ none)
    (ap (λ n. nat_lt (length r.trailer) n) (sym s.size) ∙ ap (λ (t : List ℕ). nat_lt (length t) d.trailer.size) (sym s.trailer) ∙ full)
    (moved closed')
  where
    moved : (0 < d.trailer.size) ⊎ (is_closed d.decoder.place ≡ true) → (0 < (bytes_read terms bytes).size) ⊎ (is_closed (bytes_read terms bytes).chunks.place ≡ true)
    moved (inl some) = inl (subst (λ n. 0 < n) s.size some)
    moved (inr shut') = inr (ap is_closed (sym s.chunks.place) ∙ shut')

-- a reader of chunks that has not refused lacks bytes
pub front_short : (reader : TrailedChunkReader) (terms : TrailedTerms) (bytes held : List ℕ) → Stands reader terms bytes false held → refusal_of reader ≡ None → reader.body.trailer.size ≡ 0 → length bytes < terms.chunks.encoded
front_short reader terms bytes held stands none zero' =
    let r = bytes_read terms bytes in
    let right = no_fault reader.lost (fault_of reader) stands.kept none in
    open_less terms bytes
    (front_unshut r (sym stands.shows.size ∙ zero') (ap (λ (place : Place). fault_at place.phase) (sym stands.shows.chunks.place) ∙ right))

-- ---- the end of the input

pub stopped_shut : (r : Reading) → shut r ≡ true → stopped r ≡ r
stopped_shut r is = rw is refl

pub stopped_open : (r : Reading) → shut r ≡ false → stopped r ≡ refused_by r Incomplete
stopped_open r is = rw is refl

-- what is whole, with nothing wrong, is accepted
pub accepts_whole : (whole : Bool) (taken : ℕ) (held value : List ℕ) → accepts (verdict_at None whole taken held value) ≡ whole
accepts_whole true taken held value = refl
accepts_whole false taken held value = refl

accepts_parts : (fault : Option Fault) (whole : Bool) (taken : ℕ) (held value : List ℕ) → accepts (verdict_at fault whole taken held value) ≡ true → (fault ≡ None) × (whole ≡ true)
accepts_parts (Some fault) whole taken held value is = absurd (false≢true is)
accepts_parts None whole taken held value is = (refl, sym (accepts_whole whole taken held value) ∙ is)

-- what a reader has read that is whole
pub whole_reader : (reader : TrailedChunkReader) (held : List ℕ) → accepts (verdict_by reader held) ≡ true → (fault_of reader ≡ None) × (has_trailer reader ≡ true)
whole_reader reader held is = accepts_parts (fault_of reader) (has_trailer reader) (taken_of reader) held (value_of reader) is

pub kept_reader : (lost : Bool) (fault : Option Fault) → refusal_at lost fault ≡ None → lost ≡ false
kept_reader true fault none = absurd (none-some InternalError (sym none))
kept_reader false fault none = refl

pub done_reader : (reader : TrailedChunkReader) (held : List ℕ) → refusal_of reader ≡ None → accepts (verdict_by reader held) ≡ true → IsDone reader
done_reader reader held none is =
    let both = whole_reader reader held is in
    record { kept = kept_reader reader.lost (fault_of reader) none; right = both.0; whole = both.1 }

-- what it has read is shut, or not
reads_shut : (reader : TrailedChunkReader) (terms : TrailedTerms) (bytes held : List ℕ) (whole : Bool) → Stands reader terms bytes false held → fault_of reader ≡ None → has_trailer reader ≡ whole → shut (bytes_read terms bytes) ≡ whole
reads_shut reader terms bytes held whole stands none is =
    let r = bytes_read terms bytes in
    let s = stands.shows in
    let right : fault_at r.chunks.place.phase ≡ None = ap (λ (place : Place). fault_at place.phase) (sym s.chunks.place) ∙ none in
    let same : is_whole r.size r.trailer ≡ whole = ap (is_whole r.size) (sym s.trailer) ∙ ap (λ n. is_whole n reader.body.trailer.bytes) (sym s.size) ∙ is in
    ap (λ f. is_shut f (is_whole r.size r.trailer)) right ∙ same

-- a whole body stands as it is where its input ends
pub ended_whole : (reader : TrailedChunkReader) (terms : TrailedTerms) (bytes held : List ℕ) → Stands reader terms bytes false held → accepts (verdict_by reader held) ≡ true → Stands reader terms bytes true held
ended_whole reader terms bytes held stands is =
    let both = whole_reader reader held is in
    let same = stopped_shut (bytes_read terms bytes) (reads_shut reader terms bytes held true stands both.0 both.1) in
    record {
      name = stands.name;
      kept = stands.kept;
      shows = subst (ShowsTrailed reader.body) (sym same) stands.shows;
      given = stands.given ∙ ap (λ (r : Reading). r.chunks.held) (sym same);
    }

-- and one that is open is incomplete
pub ended_open : (reader : TrailedChunkReader) (place : Place) (terms : TrailedTerms) (bytes held : List ℕ) → Stands reader terms bytes false held → refusal_of reader ≡ None → accepts (verdict_by reader held) ≡ false
    → place ≡ refused reader.body.decoder.place Incomplete
    → Stands (record reader { body = record reader.body { decoder = record reader.body.decoder { place = place } } }) terms bytes true held
ended_open reader place terms bytes held stands none is there =
    let r = bytes_read terms bytes in
    let s = stands.shows in
    let right = no_fault reader.lost (fault_of reader) stands.kept none in
    let part : has_trailer reader ≡ false =
    sym (accepts_whole (has_trailer reader) (taken_of reader) held (value_of reader))
    ∙ ap (λ (f : Option Fault). accepts (verdict_at f (has_trailer reader) (taken_of reader) held (value_of reader))) (sym right)
    ∙ is in
    let same = stopped_open r (reads_shut reader terms bytes held false stands right part) in
    record {
      name = stands.name;
      kept = stands.kept;
      shows =
          subst (ShowsTrailed (record reader.body { decoder = record reader.body.decoder { place = place } })) (sym same)
          (record {
            chunks = record { place = there ∙ ap (λ (q : Place). refused q Incomplete) s.chunks.place; hash = s.chunks.hash };
            size = s.size;
            trailer = s.trailer;
            front = s.front;
          });
      given = stands.given ∙ ap (λ (q : Reading). q.chunks.held) (sym same);
    }
