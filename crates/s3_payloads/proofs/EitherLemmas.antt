-- What is known of readers of chunks with a trailer by what is known of each kind.
use Rattle.std.proofs.Common.{◌≡◌, ◌≢◌, ℕ, ◌<◌, ◌≤◌, Bool, true, false, nat_lt, not, List, [], ◌∷◌, ◌++◌, length, take, min, refl, sym, ap, ◌∙◌, subst, Option, None, Some, if◌then◌else◌, option_map}
use Rattle.std.proofs.lemmas.Bool.{and_parts, false≢true}
use Rattle.s3_terms.specs.declared.code.Code.{Code}
use Rattle.s3_terms.specs.declared.code.Code.TheVariants.{IncompleteBody, InternalError}
use Rattle.s3_signing.specs.Chain.{Link}
use Rattle.s3_unsigned_chunks.specs.Verdict.{Refused, Accepted, Open}
use Rattle.s3_unsigned_chunks.specs.Body as unsigned_body
use Rattle.s3_unsigned_chunks.specs.Finality as unsigned_finality
use Rattle.s3_unsigned_chunks.specs.Laws as unsigned_laws
use Rattle.s3_unsigned_chunks.specs.Reading.{Terms, Reading, after_byte, code_at, code_of, run, started, stopped}
use Rattle.s3_unsigned_chunks.specs.Verdict as unsigned
use Rattle.s3_unsigned_chunks.specs.Reader as unsigned_reader
use Rattle.s3_unsigned_chunks.specs.declared.place.Fault.{Fault}
use Rattle.s3_unsigned_chunks.specs.declared.place.Fault.TheVariants as faults
use Rattle.s3_unsigned_chunks.specs.declared.place.Place.{Place}
use Rattle.s3_unsigned_chunks.specs.declared.place.Place.TheVariants as places
use Rattle.s3_unsigned_chunks.specs.declared.reader.UnsignedChunkReader.{UnsignedChunkReader}
use Rattle.s3_aws_chunked.specs.Decoder.{fault_at}
use Rattle.s3_aws_chunked.specs.Decoder as chunked
use Rattle.s3_aws_chunked.specs.Trailed.{TrailedTerms}
use Rattle.s3_aws_chunked.specs.Trailed.{after_byte as signed_byte}
use Rattle.s3_aws_chunked.specs.Trailed as signed
use Rattle.s3_aws_chunked.specs.TrailedBody as signed_body
use Rattle.s3_aws_chunked.specs.TrailedLaws as signed_laws
use Rattle.s3_aws_chunked.specs.TrailedReader as signed_reader
use Rattle.s3_aws_chunked.specs.declared.phase.Fault.{Fault as ChunkFault}
use Rattle.s3_aws_chunked.specs.declared.phase.Fault.TheVariants as chunk_faults
use Rattle.s3_aws_chunked.specs.declared.place.Place.{Place as ChunkPlace}
use Rattle.s3_aws_chunked.specs.declared.trailed_reader.TrailedChunkReader.{TrailedChunkReader}
use Rattle.s3_payloads.specs.EitherChunks.{ChunksAreShort, ChunksAreWhole, ChunksCount, ChunksEnd, ChunksEndIncomplete, ChunksFailed, ChunksJudge, ChunksRefusalsStand, ChunksStand, ChunksStay, ChunksStayWithin, StandBy, chunks_by, chunks_done, chunks_lost, chunks_taken, chunks_value}
use Rattle.s3_payloads.specs.Verdict.{TrailerTerms, chunks_verdict_by, signed_terms, unsigned_terms}
use Rattle.s3_payloads.specs.declared.either_chunks.EitherChunks.{EitherChunks}
use Rattle.s3_payloads.specs.declared.either_chunks.EitherChunks.TheVariants.{Unsigned, Signed}

-- ---- the laws of both kinds

judge_by : unsigned_laws.ReadersJudge → signed_laws.ReadersJudge → (seed : Option Link) (chunks : EitherChunks) (terms : TrailerTerms) (bytes : List ℕ) (ended : Bool) (held : List ℕ)
    → StandBy seed chunks terms bytes ended held → chunks_by chunks held ≡ chunks_verdict_by seed terms bytes ended
judge_by one other None (Unsigned chunks) terms bytes ended held stands = one chunks (unsigned_terms terms) bytes ended held stands
judge_by one other (Some seed) (Signed chunks) terms bytes ended held stands = other chunks (signed_terms terms seed) bytes ended held stands
judge_by one other None (Signed chunks) terms bytes ended held stands = absurd stands
judge_by one other (Some seed) (Unsigned chunks) terms bytes ended held stands = absurd stands

pub judge : unsigned_laws.ReadersJudge → signed_laws.ReadersJudge → ChunksJudge
judge one other chunks terms bytes ended held stands = judge_by one other terms.seed chunks terms bytes ended held stands

count_by : unsigned_laws.ReadersCount → signed_laws.ReadersCount → (seed : Option Link) (chunks : EitherChunks) (terms : TrailerTerms) (bytes : List ℕ) (ended : Bool) (held : List ℕ)
    → StandBy seed chunks terms bytes ended held → ((code : Code) → ChunksFailed chunks code → ⊥) → chunks_taken chunks ≡ min terms.encoded (length bytes)
count_by one other None (Unsigned chunks) terms bytes ended held stands never = one chunks (unsigned_terms terms) bytes ended held stands never
count_by one other (Some seed) (Signed chunks) terms bytes ended held stands never = other chunks (signed_terms terms seed) bytes ended held stands never
count_by one other None (Signed chunks) terms bytes ended held stands never = absurd stands
count_by one other (Some seed) (Unsigned chunks) terms bytes ended held stands never = absurd stands

pub count : unsigned_laws.ReadersCount → signed_laws.ReadersCount → ChunksCount
count one other chunks terms bytes ended held stands never = count_by one other terms.seed chunks terms bytes ended held stands never

within_by : unsigned_laws.ReadersStayWithin → signed_laws.ReadersStayWithin → (seed : Option Link) (chunks : EitherChunks) (terms : TrailerTerms) (bytes : List ℕ) (ended : Bool) (held : List ℕ)
    → StandBy seed chunks terms bytes ended held → chunks_taken chunks ≤ length bytes
within_by one other None (Unsigned chunks) terms bytes ended held stands = one chunks (unsigned_terms terms) bytes ended held stands
within_by one other (Some seed) (Signed chunks) terms bytes ended held stands = other chunks (signed_terms terms seed) bytes ended held stands
within_by one other None (Signed chunks) terms bytes ended held stands = absurd stands
within_by one other (Some seed) (Unsigned chunks) terms bytes ended held stands = absurd stands

pub within : unsigned_laws.ReadersStayWithin → signed_laws.ReadersStayWithin → ChunksStayWithin
within one other chunks terms bytes ended held stands = within_by one other terms.seed chunks terms bytes ended held stands

stay_by : unsigned_finality.VerdictsStay → signed_laws.VerdictsStay → (seed : Option Link) (terms : TrailerTerms) (bytes more : List ℕ) (ended : Bool)
    → unsigned_finality.IsDecided (chunks_verdict_by seed terms bytes false) → chunks_verdict_by seed terms (bytes ++ more) ended ≡ chunks_verdict_by seed terms bytes false
stay_by one other None terms bytes more ended decided = one (unsigned_terms terms) bytes more ended decided
stay_by one other (Some seed) terms bytes more ended decided = other (signed_terms terms seed) bytes more ended decided

pub stay : unsigned_finality.VerdictsStay → signed_laws.VerdictsStay → ChunksStay
stay one other terms bytes more ended decided = stay_by one other terms.seed terms bytes more ended decided

end_by : unsigned_finality.EndsDecide → signed_laws.EndsDecide → (seed : Option Link) (terms : TrailerTerms) (bytes : List ℕ) → unsigned_finality.IsDecided (chunks_verdict_by seed terms bytes true)
end_by one other None terms bytes = one (unsigned_terms terms) bytes
end_by one other (Some seed) terms bytes = other (signed_terms terms seed) bytes

pub end : unsigned_finality.EndsDecide → signed_laws.EndsDecide → ChunksEnd
end one other terms bytes = end_by one other terms.seed terms bytes

short_by : unsigned_finality.OpenBodiesAreShort → signed_laws.OpenBodiesAreShort → (seed : Option Link) (terms : TrailerTerms) (bytes held : List ℕ)
    → chunks_verdict_by seed terms bytes false ≡ Open held → length bytes < terms.encoded
short_by one other None terms bytes held is = one (unsigned_terms terms) bytes held is
short_by one other (Some seed) terms bytes held is = other (signed_terms terms seed) bytes held is

pub short : unsigned_finality.OpenBodiesAreShort → signed_laws.OpenBodiesAreShort → ChunksAreShort
short one other terms bytes held is = short_by one other terms.seed terms bytes held is

incomplete_by : unsigned_finality.OpenBodiesEndIncomplete → signed_laws.OpenBodiesEndIncomplete → (seed : Option Link) (terms : TrailerTerms) (bytes held : List ℕ)
    → chunks_verdict_by seed terms bytes false ≡ Open held → chunks_verdict_by seed terms bytes true ≡ Refused (length bytes) IncompleteBody
incomplete_by one other None terms bytes held is = one (unsigned_terms terms) bytes held is
incomplete_by one other (Some seed) terms bytes held is = other (signed_terms terms seed) bytes held is

pub incomplete : unsigned_finality.OpenBodiesEndIncomplete → signed_laws.OpenBodiesEndIncomplete → ChunksEndIncomplete
incomplete one other terms bytes held is = incomplete_by one other terms.seed terms bytes held is

stand_by : unsigned_finality.RefusalsStand → signed_laws.RefusalsStand → (seed : Option Link) (terms : TrailerTerms) (bytes : List ℕ) (place : ℕ) (code : Code)
    → chunks_verdict_by seed terms bytes false ≡ Refused place code → (place ≤ length bytes) × (chunks_verdict_by seed terms (take place bytes) false ≡ Refused place code)
stand_by one other None terms bytes place code is = one (unsigned_terms terms) bytes place code is
stand_by one other (Some seed) terms bytes place code is = other (signed_terms terms seed) bytes place code is

pub stand : unsigned_finality.RefusalsStand → signed_laws.RefusalsStand → ChunksRefusalsStand
stand one other terms bytes place code is = stand_by one other terms.seed terms bytes place code is

whole_by : unsigned_body.AcceptedAreBodies → signed_body.AcceptedAreBodies → (seed : Option Link) (terms : TrailerTerms) (bytes : List ℕ) (ended : Bool) (held value : List ℕ)
    → chunks_verdict_by seed terms bytes ended ≡ Accepted held value → terms.encoded ≤ length bytes
whole_by one other None terms bytes ended held value is = (one (unsigned_terms terms) bytes ended held value is).0
whole_by one other (Some seed) terms bytes ended held value is = (other (signed_terms terms seed) bytes ended held value is).0

pub whole : unsigned_body.AcceptedAreBodies → signed_body.AcceptedAreBodies → ChunksAreWhole
whole one other terms bytes ended held value is = whole_by one other terms.seed terms bytes ended held value is

-- ---- a piece, and the end of the input, by the kind

pub unsigned_stands : (old new : UnsignedChunkReader) (terms : TrailerTerms) (bytes more : List ℕ) (ended : Bool) (held given : List ℕ)
    → ((t : Terms) → t.encoded ≡ terms.encoded → unsigned_reader.Stands old t bytes false held → unsigned_reader.Stands new t more ended given)
    → ChunksStand (Unsigned old) terms bytes false held → ChunksStand (Unsigned new) terms more ended given
unsigned_stands old new terms bytes more ended held given goes stands = by terms.seed stands
  where
    by : (seed : Option Link) → StandBy seed (Unsigned old) terms bytes false held → StandBy seed (Unsigned new) terms more ended given
    by None stands' = goes (unsigned_terms terms) refl stands'
    by (Some seed) stands' = absurd stands'

pub signed_stands : (old new : TrailedChunkReader) (terms : TrailerTerms) (bytes more : List ℕ) (ended : Bool) (held given : List ℕ)
    → ((t : TrailedTerms) → t.chunks.encoded ≡ terms.encoded → signed_reader.Stands old t bytes false held → signed_reader.Stands new t more ended given)
    → ChunksStand (Signed old) terms bytes false held → ChunksStand (Signed new) terms more ended given
signed_stands old new terms bytes more ended held given goes stands = by terms.seed stands
  where
    by : (seed : Option Link) → StandBy seed (Signed old) terms bytes false held → StandBy seed (Signed new) terms more ended given
    by (Some seed) stands' = goes (signed_terms terms seed) refl stands'
    by None stands' = absurd stands'

pub unsigned_short : (old : UnsignedChunkReader) (terms : TrailerTerms) (bytes held : List ℕ)
    → ((t : Terms) → unsigned_reader.Stands old t bytes false held → length bytes < t.encoded) → ChunksStand (Unsigned old) terms bytes false held → length bytes < terms.encoded
unsigned_short old terms bytes held goes stands = by terms.seed stands
  where
    by : (seed : Option Link) → StandBy seed (Unsigned old) terms bytes false held → length bytes < terms.encoded
    by None stands' = goes (unsigned_terms terms) stands'
    by (Some seed) stands' = absurd stands'

pub signed_short : (old : TrailedChunkReader) (terms : TrailerTerms) (bytes held : List ℕ)
    → ((t : TrailedTerms) → signed_reader.Stands old t bytes false held → length bytes < t.chunks.encoded) → ChunksStand (Signed old) terms bytes false held → length bytes < terms.encoded
signed_short old terms bytes held goes stands = by terms.seed stands
  where
    by : (seed : Option Link) → StandBy seed (Signed old) terms bytes false held → length bytes < terms.encoded
    by (Some seed) stands' = goes (signed_terms terms seed) stands'
    by None stands' = absurd stands'

-- ---- a reader that stands has memory

kept_by : (seed : Option Link) (chunks : EitherChunks) (terms : TrailerTerms) (bytes : List ℕ) (ended : Bool) (held : List ℕ) → StandBy seed chunks terms bytes ended held → chunks_lost chunks ≡ false
kept_by None (Unsigned chunks) terms bytes ended held stands = stands.kept
kept_by (Some seed) (Signed chunks) terms bytes ended held stands = stands.kept
kept_by None (Signed chunks) terms bytes ended held stands = absurd stands
kept_by (Some seed) (Unsigned chunks) terms bytes ended held stands = absurd stands

pub stood_kept : (chunks : EitherChunks) (terms : TrailerTerms) (bytes : List ℕ) (ended : Bool) (held : List ℕ) → ChunksStand chunks terms bytes ended held → chunks_lost chunks ≡ false
stood_kept chunks terms bytes ended held stands = kept_by terms.seed chunks terms bytes ended held stands

-- a fault of a body never says that memory ran out
fault_other : (fault : Fault) → code_of fault ≢ InternalError
fault_other faults.Invalid is = cc
fault_other faults.Incomplete is = cc

chunk_fault_other : (fault : ChunkFault) → chunked.code_of fault ≢ InternalError
chunk_fault_other chunk_faults.Invalid is = cc
chunk_fault_other chunk_faults.Forged is = cc
chunk_fault_other chunk_faults.Incomplete is = cc

place_code : (place : Place) (code : Code) → code_at place ≡ Some code → code ≢ InternalError
place_code (places.Refused fault) code is same =
    let found : code_of fault ≡ code = cc in
    fault_other fault (found ∙ same)
place_code places.Over code is same = cc
place_code (places.Size digits) code is same = cc
place_code (places.SizeEnd size) code is same = cc
place_code (places.Data left) code is same = cc
place_code places.DataEnd code is same = cc
place_code (places.Name matched) code is same = cc
place_code places.Value code is same = cc
place_code places.Gap code is same = cc
place_code places.ValueEnd code is same = cc
place_code places.Last code is same = cc
place_code places.LastEnd code is same = cc

option_code : (fault : Option ChunkFault) (code : Code) → option_map chunked.code_of fault ≡ Some code → code ≢ InternalError
option_code None code is same = cc
option_code (Some fault) code is same =
    let found : chunked.code_of fault ≡ code = cc in
    chunk_fault_other fault (found ∙ same)

-- a reader for which memory has not run out refuses with another code
pub kept_code : (chunks : EitherChunks) (code : Code) → chunks_lost chunks ≡ false → ChunksFailed chunks code → code ≢ InternalError
kept_code (Unsigned chunks) code kept failed = place_code chunks.standing.place code (rw kept at failed)
kept_code (Signed chunks) code kept failed = option_code (signed_reader.fault_of chunks) code (rw kept at failed)

-- and one for which it has, with this one
pub lost_code : (chunks : EitherChunks) (code : Code) → chunks_lost chunks ≡ true → ChunksFailed chunks code → code ≡ InternalError
lost_code (Unsigned chunks) code lost failed = let is = rw lost at failed in cc
lost_code (Signed chunks) code lost failed = let is = rw lost at failed in cc

-- ---- what a reader says, and whether it has refused

place_accepts : (place : Place) (taken : ℕ) (value held given other : List ℕ) → unsigned.verdict_at place taken value held ≡ Accepted given other → code_at place ≡ None
place_accepts places.Over taken value held given other is = refl
place_accepts (places.Refused fault) taken value held given other is = absurd (cc)
place_accepts (places.Size digits) taken value held given other is = refl
place_accepts (places.SizeEnd size) taken value held given other is = refl
place_accepts (places.Data left) taken value held given other is = refl
place_accepts places.DataEnd taken value held given other is = refl
place_accepts (places.Name matched) taken value held given other is = refl
place_accepts places.Value taken value held given other is = refl
place_accepts places.Gap taken value held given other is = refl
place_accepts places.ValueEnd taken value held given other is = refl
place_accepts places.Last taken value held given other is = refl
place_accepts places.LastEnd taken value held given other is = refl

fault_accepts : (fault : Option ChunkFault) (whole' : Bool) (taken : ℕ) (held value given other : List ℕ) → signed.verdict_at fault whole' taken held value ≡ Accepted given other → fault ≡ None
fault_accepts None whole' taken held value given other is = refl
fault_accepts (Some fault) whole' taken held value given other is = absurd (cc)

-- one that accepts has refused nothing
pub never_failed : (chunks : EitherChunks) (held given other : List ℕ) → chunks_lost chunks ≡ false → chunks_by chunks held ≡ Accepted given other → (code : Code) → ¬ (ChunksFailed chunks code)
never_failed (Unsigned chunks) held given other kept is code failed =
    let none = place_accepts chunks.standing.place (unsigned_reader.taken_of chunks) (unsigned_reader.value_of chunks) held given other is in
    let some : code_at chunks.standing.place ≡ Some code = rw kept at failed in
    cc
never_failed (Signed chunks) held given other kept is code failed =
    let none = fault_accepts (signed_reader.fault_of chunks) (signed_reader.has_trailer chunks) (signed_reader.taken_of chunks) held (signed_reader.value_of chunks) given other is in
    let some : option_map chunked.code_of (signed_reader.fault_of chunks) ≡ Some code = rw kept at failed in
    let same : option_map chunked.code_of None ≡ Some code = ap (option_map chunked.code_of) (sym none) ∙ some in
    cc

place_fails : (place : Place) (taken : ℕ) (value held : List ℕ) (code : Code) → code_at place ≡ Some code → unsigned.verdict_at place taken value held ≡ Refused taken code
place_fails (places.Refused fault) taken value held code is = let same : code_of fault ≡ code = cc in ap (Refused taken) same
place_fails places.Over taken value held code is = absurd (cc)
place_fails (places.Size digits) taken value held code is = absurd (cc)
place_fails (places.SizeEnd size) taken value held code is = absurd (cc)
place_fails (places.Data left) taken value held code is = absurd (cc)
place_fails places.DataEnd taken value held code is = absurd (cc)
place_fails (places.Name matched) taken value held code is = absurd (cc)
place_fails places.Value taken value held code is = absurd (cc)
place_fails places.Gap taken value held code is = absurd (cc)
place_fails places.ValueEnd taken value held code is = absurd (cc)
place_fails places.Last taken value held code is = absurd (cc)
place_fails places.LastEnd taken value held code is = absurd (cc)

fault_fails : (fault : Option ChunkFault) (whole' : Bool) (taken : ℕ) (held value : List ℕ) (code : Code) → option_map chunked.code_of fault ≡ Some code → signed.verdict_at fault whole' taken held value ≡ Refused taken code
fault_fails None whole' taken held value code is = absurd (cc)
fault_fails (Some fault) whole' taken held value code is = let same : chunked.code_of fault ≡ code = cc in ap (Refused taken) same

-- one that has refused says so
pub says_failed : (chunks : EitherChunks) (held : List ℕ) (code : Code) → chunks_lost chunks ≡ false → ChunksFailed chunks code → chunks_by chunks held ≡ Refused (chunks_taken chunks) code
says_failed (Unsigned chunks) held code kept failed =
    place_fails chunks.standing.place (unsigned_reader.taken_of chunks) (unsigned_reader.value_of chunks) held code (rw kept at failed)
says_failed (Signed chunks) held code kept failed =
    fault_fails (signed_reader.fault_of chunks) (signed_reader.has_trailer chunks) (signed_reader.taken_of chunks) held (signed_reader.value_of chunks) code (rw kept at failed)

-- one that is done accepts
pub says_done : (chunks : EitherChunks) (held : List ℕ) → chunks_done chunks → chunks_by chunks held ≡ Accepted held (chunks_value chunks)
says_done (Unsigned chunks) held is = rw (is.1) refl
says_done (Signed chunks) held is = rw (is.right, is.whole) refl

-- one that has refused nothing says no refusal
pub says_refusal : (chunks : EitherChunks) (held : List ℕ) (place : ℕ) (code : Code) → chunks_by chunks held ≡ Refused place code → (other : Code) × ChunksFailed chunks other
says_refusal (Unsigned chunks) held place code is =
    by chunks.lost chunks.standing.place (unsigned_reader.taken_of chunks) (unsigned_reader.value_of chunks) is
  where
    by : (lost : Bool) (at : Place) (taken : ℕ) (value : List ℕ) → unsigned.verdict_at at taken value held ≡ Refused place code → (other : Code) × ((if lost then Some InternalError else code_at at) ≡ Some other)
    by true at taken value is' = (InternalError, refl)
    by false (places.Refused fault) taken value is' = (code_of fault, refl)
    by false places.Over taken value is' = absurd (cc)
    by false (places.Size digits) taken value is' = absurd (cc)
    by false (places.SizeEnd size) taken value is' = absurd (cc)
    by false (places.Data left) taken value is' = absurd (cc)
    by false places.DataEnd taken value is' = absurd (cc)
    by false (places.Name matched) taken value is' = absurd (cc)
    by false places.Value taken value is' = absurd (cc)
    by false places.Gap taken value is' = absurd (cc)
    by false places.ValueEnd taken value is' = absurd (cc)
    by false places.Last taken value is' = absurd (cc)
    by false places.LastEnd taken value is' = absurd (cc)
says_refusal (Signed chunks) held place code is =
    by chunks.lost (signed_reader.fault_of chunks) (signed_reader.has_trailer chunks) (signed_reader.taken_of chunks) (signed_reader.value_of chunks) is
  where
    by : (lost : Bool) (fault : Option ChunkFault) (whole' : Bool) (taken : ℕ) (value : List ℕ) → signed.verdict_at fault whole' taken held value ≡ Refused place code → (other : Code) × ((if lost then Some InternalError else option_map chunked.code_of fault) ≡ Some other)
    by true fault whole' taken value is' = (InternalError, refl)
    by false (Some fault) whole' taken value is' = (chunked.code_of fault, refl)
    by false None true taken value is' = absurd (cc)
    by false None false taken value is' = absurd (cc)

-- ---- what is accepted stays so

run_more : (terms : Terms) (r : Reading) (front rest : List ℕ) → run terms r (front ++ rest) ≡ run terms (run terms r front) rest
run_more terms r [] rest = refl
run_more terms r (byte ∷ front) rest = run_more terms (after_byte terms r byte) front rest

after_over : (terms : Terms) (r : Reading) (byte : ℕ) → r.place ≡ places.Over → after_byte terms r byte ≡ r
unfolding after_byte
after_over terms r byte is = rw is refl

run_over : (terms : Terms) (r : Reading) (bytes : List ℕ) → r.place ≡ places.Over → run terms r bytes ≡ r
run_over terms r [] is = refl
run_over terms r (byte ∷ bytes) is = rw (after_over terms r byte is) (run_over terms r bytes is)

stopped_over : (r : Reading) → r.place ≡ places.Over → stopped r ≡ r
stopped_over r is = rw is refl

place_of : (place : Place) (taken : ℕ) (value held given other : List ℕ) → unsigned.verdict_at place taken value held ≡ Accepted given other → place ≡ places.Over
place_of places.Over taken value held given other is = refl
place_of (places.Refused fault) taken value held given other is = absurd (cc)
place_of (places.Size digits) taken value held given other is = absurd (cc)
place_of (places.SizeEnd size) taken value held given other is = absurd (cc)
place_of (places.Data left) taken value held given other is = absurd (cc)
place_of places.DataEnd taken value held given other is = absurd (cc)
place_of (places.Name matched) taken value held given other is = absurd (cc)
place_of places.Value taken value held given other is = absurd (cc)
place_of places.Gap taken value held given other is = absurd (cc)
place_of places.ValueEnd taken value held given other is = absurd (cc)
place_of places.Last taken value held given other is = absurd (cc)
place_of places.LastEnd taken value held given other is = absurd (cc)

unsigned_over : (reader : UnsignedChunkReader) (terms : Terms) (bytes held given other : List ℕ) → unsigned_reader.Stands reader terms bytes false held
    → unsigned_reader.verdict_by reader held ≡ Accepted given other → (run terms (started terms) bytes).place ≡ places.Over
unsigned_over reader terms bytes held given other stood is =
    ap (λ (r : Reading). r.place) (sym stood.shows)
    ∙ place_of reader.standing.place (unsigned_reader.taken_of reader) (unsigned_reader.value_of reader) held given other is

unsigned_fed : (reader : UnsignedChunkReader) (terms : Terms) (bytes piece held given other : List ℕ) → unsigned_reader.Stands reader terms bytes false held
    → unsigned_reader.verdict_by reader held ≡ Accepted given other → unsigned_reader.Stands reader terms (bytes ++ piece) false held
unsigned_fed reader terms bytes piece held given other stood is = record {
  name = stood.name;
  encoded = stood.encoded;
  kept = stood.kept;
  shows =
      stood.shows
      ∙ sym (run_over terms (run terms (started terms) bytes) piece (unsigned_over reader terms bytes held given other stood is))
      ∙ sym (run_more terms (started terms) bytes piece);
}

unsigned_ended : (reader : UnsignedChunkReader) (terms : Terms) (bytes held given other : List ℕ) → unsigned_reader.Stands reader terms bytes false held
    → unsigned_reader.verdict_by reader held ≡ Accepted given other → unsigned_reader.Stands reader terms bytes true held
unsigned_ended reader terms bytes held given other stood is = record {
  name = stood.name;
  encoded = stood.encoded;
  kept = stood.kept;
  shows = stood.shows ∙ sym (stopped_over (run terms (started terms) bytes) (unsigned_over reader terms bytes held given other stood is));
}

-- the same of signed chunks
signed_more : (name : List ℕ) (r : signed.Reading) (front rest : List ℕ) → signed.run name r (front ++ rest) ≡ signed.run name (signed.run name r front) rest
signed_more name r [] rest = refl
signed_more name r (byte ∷ front) rest = signed_more name (signed.after_byte name r byte) front rest

signed_after : (name : List ℕ) (r : signed.Reading) (byte : ℕ) → nat_lt 0 r.size ≡ true → nat_lt (length r.trailer) r.size ≡ false → signed_byte name r byte ≡ r
unfolding signed_byte
signed_after name r byte some full = rw (some, full) refl

signed_over : (name : List ℕ) (r : signed.Reading) (bytes : List ℕ) → nat_lt 0 r.size ≡ true → nat_lt (length r.trailer) r.size ≡ false → signed.run name r bytes ≡ r
signed_over name r [] some full = refl
signed_over name r (byte ∷ bytes) some full = rw (signed_after name r byte some full) (signed_over name r bytes some full)

signed_stopped : (r : signed.Reading) → signed.shut r ≡ true → signed.stopped r ≡ r
signed_stopped r is = rw is refl

not_false : (test : Bool) → not test ≡ true → test ≡ false
not_false true is = absurd (false≢true is)
not_false false is = refl

whole_accepts : (fault : Option ChunkFault) (whole' : Bool) (taken : ℕ) (held value given other : List ℕ) → signed.verdict_at fault whole' taken held value ≡ Accepted given other → whole' ≡ true
whole_accepts None true taken held value given other is = refl
whole_accepts None false taken held value given other is = absurd (cc)
whole_accepts (Some fault) whole' taken held value given other is = absurd (cc)

-- what a reader that accepts has read
record SignedOver (terms : TrailedTerms) (bytes : List ℕ) : Type 0 where
  right : fault_at (signed.run terms.name (signed.begun terms) bytes).chunks.place.phase ≡ None
  some : nat_lt 0 (signed.run terms.name (signed.begun terms) bytes).size ≡ true
  full : nat_lt (length (signed.run terms.name (signed.begun terms) bytes).trailer) (signed.run terms.name (signed.begun terms) bytes).size ≡ false

signed_read : (reader : TrailedChunkReader) (terms : TrailedTerms) (bytes held given other : List ℕ) → signed_reader.Stands reader terms bytes false held
    → signed_reader.verdict_by reader held ≡ Accepted given other → SignedOver terms bytes
signed_read reader terms bytes held given other stood is =
    let r = signed.run terms.name (signed.begun terms) bytes in
    let none = fault_accepts (signed_reader.fault_of reader) (signed_reader.has_trailer reader) (signed_reader.taken_of reader) held (signed_reader.value_of reader) given other is in
    let there = whole_accepts (signed_reader.fault_of reader) (signed_reader.has_trailer reader) (signed_reader.taken_of reader) held (signed_reader.value_of reader) given other is in
    let own : signed.is_whole r.size r.trailer ≡ true =
    ap (signed.is_whole r.size) (sym stood.shows.trailer) ∙ ap (λ n. signed.is_whole n reader.body.trailer.bytes) (sym stood.shows.size) ∙ there in
    let both = and_parts (nat_lt 0 r.size) (not (nat_lt (length r.trailer) r.size)) own in
    record {
      right = ap (λ (place : ChunkPlace). fault_at place.phase) (sym stood.shows.chunks.place) ∙ none;
      some = both.0;
      full = not_false (nat_lt (length r.trailer) r.size) both.1;
    }

signed_same : (terms : TrailedTerms) (bytes piece : List ℕ) → SignedOver terms bytes → signed.run terms.name (signed.begun terms) (bytes ++ piece) ≡ signed.run terms.name (signed.begun terms) bytes
signed_same terms bytes piece o =
    signed_more terms.name (signed.begun terms) bytes piece ∙ signed_over terms.name (signed.run terms.name (signed.begun terms) bytes) piece o.some o.full

signed_fed : (reader : TrailedChunkReader) (terms : TrailedTerms) (bytes piece held given other : List ℕ) → signed_reader.Stands reader terms bytes false held
    → signed_reader.verdict_by reader held ≡ Accepted given other → signed_reader.Stands reader terms (bytes ++ piece) false held
signed_fed reader terms bytes piece held given other stood is =
    let same = signed_same terms bytes piece (signed_read reader terms bytes held given other stood is) in
    record {
      name = stood.name;
      kept = stood.kept;
      shows = subst (signed_reader.ShowsTrailed reader.body) (sym same) stood.shows;
      given = stood.given ∙ ap (λ (r : signed.Reading). r.chunks.held) (sym same);
    }

signed_ended : (reader : TrailedChunkReader) (terms : TrailedTerms) (bytes held given other : List ℕ) → signed_reader.Stands reader terms bytes false held
    → signed_reader.verdict_by reader held ≡ Accepted given other → signed_reader.Stands reader terms bytes true held
signed_ended reader terms bytes held given other stood is =
    let r = signed.run terms.name (signed.begun terms) bytes in
    let o = signed_read reader terms bytes held given other stood is in
    let same = signed_stopped r (rw (o.right, o.some, o.full) refl) in
    record {
      name = stood.name;
      kept = stood.kept;
      shows = subst (signed_reader.ShowsTrailed reader.body) (sym same) stood.shows;
      given = stood.given ∙ ap (λ (q : signed.Reading). q.chunks.held) (sym same);
    }

fed_by : (seed : Option Link) (chunks : EitherChunks) (terms : TrailerTerms) (bytes piece held given other : List ℕ) → StandBy seed chunks terms bytes false held
    → chunks_by chunks held ≡ Accepted given other → StandBy seed chunks terms (bytes ++ piece) false held
fed_by None (Unsigned chunks) terms bytes piece held given other stood is = unsigned_fed chunks (unsigned_terms terms) bytes piece held given other stood is
fed_by (Some seed) (Signed chunks) terms bytes piece held given other stood is = signed_fed chunks (signed_terms terms seed) bytes piece held given other stood is
fed_by None (Signed chunks) terms bytes piece held given other stood is = absurd stood
fed_by (Some seed) (Unsigned chunks) terms bytes piece held given other stood is = absurd stood

pub accepted_fed : (chunks : EitherChunks) (terms : TrailerTerms) (bytes piece held given other : List ℕ) → ChunksStand chunks terms bytes false held
    → chunks_by chunks held ≡ Accepted given other → ChunksStand chunks terms (bytes ++ piece) false held
accepted_fed chunks terms bytes piece held given other stood is = fed_by terms.seed chunks terms bytes piece held given other stood is

ended_by : (seed : Option Link) (chunks : EitherChunks) (terms : TrailerTerms) (bytes held given other : List ℕ) → StandBy seed chunks terms bytes false held
    → chunks_by chunks held ≡ Accepted given other → StandBy seed chunks terms bytes true held
ended_by None (Unsigned chunks) terms bytes held given other stood is = unsigned_ended chunks (unsigned_terms terms) bytes held given other stood is
ended_by (Some seed) (Signed chunks) terms bytes held given other stood is = signed_ended chunks (signed_terms terms seed) bytes held given other stood is
ended_by None (Signed chunks) terms bytes held given other stood is = absurd stood
ended_by (Some seed) (Unsigned chunks) terms bytes held given other stood is = absurd stood

pub accepted_ended : (chunks : EitherChunks) (terms : TrailerTerms) (bytes held given other : List ℕ) → ChunksStand chunks terms bytes false held
    → chunks_by chunks held ≡ Accepted given other → ChunksStand chunks terms bytes true held
accepted_ended chunks terms bytes held given other stood is = ended_by terms.seed chunks terms bytes held given other stood is
