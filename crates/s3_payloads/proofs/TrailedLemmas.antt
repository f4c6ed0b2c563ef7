-- What the calls of the reader of a body with a checksum behind its chunks bring.
use Rattle.std.proofs.Common.{◌≡◌, ◌≢◌, ◌⊎◌, ℕ, ◌+◌, ◌<◌, true, false, List, [], ◌++◌, length, refl, sym, ap, ◌∙◌, subst, arith, None, Some, Result, Ok, Err, inl, inr, ⊎_elim}
use Rattle.std.specs.Prelude.{⊤, IfOk, IfErr, OnOk}
use Rattle.std.proofs.lemmas.Bool.{cases_Bool}
use Rattle.std.proofs.lemmas.List.{append-nil, length-append}
use Rattle.s3_terms.specs.declared.code.Code.{Code}
use Rattle.s3_terms.specs.declared.code.Code.TheVariants.{InternalError}
use Rattle.s3_aws_chunked.specs.Reader.{said_at_end}
use Rattle.s3_aws_chunked.specs.Verdict as payload
use Rattle.s3_integrity.specs.declared.algorithm.ChecksumAlgorithm.{ChecksumAlgorithm}
use Rattle.s3_unsigned_chunks.specs.Finality.{IsDecided}
use Rattle.s3_unsigned_chunks.specs.Reader as unsigned_reader
use Rattle.s3_unsigned_chunks.specs.Verdict as unsigned
use Rattle.s3_unsigned_chunks.specs.Sinks.{Grows, got}
use Rattle.s3_payloads.specs.declared.either_chunks.EitherChunks.{EitherChunks}
use Rattle.s3_payloads.specs.declared.trailed.TrailedReader.{TrailedReader}
use Rattle.s3_payloads.specs.EitherChunks.{ChunksCount, ChunksEndIncomplete, ChunksFailed, ChunksJudge, ChunksStand, ChunksStay, chunks_by, chunks_done, chunks_lost, chunks_taken}
use Rattle.s3_payloads.specs.Outcome.{EndedTo, FedTo, finished, part_of}
use Rattle.s3_payloads.specs.Summed.{SummedState, marked}
use Rattle.s3_payloads.specs.Trailed.{TrailedDone, TrailedFailed, TrailedStands, told_by, trailed_by, wrong_in}
use Rattle.s3_payloads.specs.Verdict.{TrailerTerms, chunks_verdict}
use Rattle.s3_payloads.proofs.EitherLemmas.{accepted_ended, accepted_fed, kept_code, lost_code, stood_kept}
use Rattle.s3_payloads.proofs.SummedLemmas.{data_grows}

-- ---- a checksum that is wrong

-- what is wrong with a checksum is known where the chunks are accepted
wrong_accepts : (algorithm : ChecksumAlgorithm) (verdict : unsigned.Verdict) (code : Code) → wrong_in algorithm verdict ≡ Some code
    → (given : List ℕ) × (value : List ℕ) × (verdict ≡ unsigned.Accepted given value)
wrong_accepts algorithm (unsigned.Accepted given value) code is = (given, value, refl)
wrong_accepts algorithm (unsigned.Refused place other) code is = absurd (cc)
wrong_accepts algorithm (unsigned.Open held) code is = absurd (cc)

wrong_said : (reader : TrailedReader) (algorithm : ChecksumAlgorithm) (terms : TrailerTerms) (bytes : List ℕ) (code : Code)
    → TrailedStands reader algorithm terms bytes false → reader.wrong ≡ Some code
    → (given : List ℕ) × (value : List ℕ) × (chunks_by reader.chunks reader.summed.bytes ≡ unsigned.Accepted given value)
wrong_said reader algorithm terms bytes code stood is =
    wrong_accepts algorithm (chunks_by reader.chunks reader.summed.bytes) code (sym stood.judged ∙ is)

-- a reader that has refused it stands so, whatever follows
pub wrong_fed : (reader : TrailedReader) (algorithm : ChecksumAlgorithm) (terms : TrailerTerms) (bytes piece : List ℕ) (code : Code)
    → TrailedStands reader algorithm terms bytes false → reader.wrong ≡ Some code
    → FedTo piece (part_of terms.encoded bytes piece) (TrailedStands reader algorithm terms (bytes ++ piece) false) (TrailedFailed reader) (Err code)
wrong_fed reader algorithm terms bytes piece code stood is =
    let said = wrong_said reader algorithm terms bytes code stood is in (
      rw is refl,
      inr (record {
        kind = stood.kind;
        shows = accepted_fed reader.chunks terms bytes piece reader.summed.bytes said.0 said.1 stood.shows said.2;
        judged = stood.judged;
      }),
    )

pub wrong_ended : (reader : TrailedReader) (algorithm : ChecksumAlgorithm) (terms : TrailerTerms) (bytes : List ℕ) (code : Code)
    → TrailedStands reader algorithm terms bytes false → reader.wrong ≡ Some code
    → EndedTo (TrailedStands reader algorithm terms bytes true) (TrailedFailed reader) (TrailedDone reader) (Err code)
wrong_ended reader algorithm terms bytes code stood is =
    let said = wrong_said reader algorithm terms bytes code stood is in (
      record {
        kind = stood.kind;
        shows = accepted_ended reader.chunks terms bytes reader.summed.bytes said.0 said.1 stood.shows said.2;
        judged = stood.judged;
      },
      rw is refl,
    )

-- ---- a piece, for the chunks

-- what a piece brings
pub chunks_fed : ChunksCount → (old new : EitherChunks) (before after : SummedState) (terms : TrailerTerms) (bytes piece : List ℕ) (result : Result ℕ Code)
    → ChunksStand old terms bytes false before.bytes
    → (result ≢ Err InternalError → ChunksStand new terms (bytes ++ piece) false (before.bytes ++ got (marked before) (marked after)))
    → IfOk result (λ n. (code : Code) → ¬ (ChunksFailed new code))
    → IfErr result (λ code. ChunksFailed new code)
    → IfOk result (λ n. chunks_taken new ≡ chunks_taken old + n)
    → ((code : Code) → ChunksFailed old code → result ≡ Err code)
    → Grows (marked before) (marked after)
    → (result ≡ Err InternalError → ChunksFailed old InternalError ⊎ (0 < length piece))
    → (result ≡ Err InternalError → length bytes < terms.encoded)
    → FedTo piece (part_of terms.encoded bytes piece) (ChunksStand new terms (bytes ++ piece) false after.bytes) (ChunksFailed new) result
chunks_fed counts old new before after terms bytes piece (Ok n) stood stands ok err count refuses grows memory short =
    let stands_now : ChunksStand new terms (bytes ++ piece) false after.bytes = rw (data_grows before after grows) (stands (λ is. cc)) in
    let was = counts old terms bytes false before.bytes stood (λ code failed. let is = refuses code failed in cc) in
    let is = counts new terms (bytes ++ piece) false after.bytes stands_now ok in
    (omega (arith, was, is, count, length-append bytes piece), stands_now, ok)
chunks_fed counts old new before after terms bytes piece (Err code) stood stands ok err count refuses grows memory short = elim (cases_Bool (chunks_lost new)) [
  | inl lost ↦
      let same : code ≡ InternalError = lost_code new code lost err in
      let ran : Err code ≡ Err InternalError = ap (λ (c : Code). Err c) same in
      let some : 0 < length piece = ⊎_elim (λ failed. absurd (kept_code old InternalError (stood_kept old terms bytes false before.bytes stood) failed refl)) (λ some. some) (memory ran) in
      (err, inl (same, omega (arith, some, short ran)))
  | inr kept ↦
      let other = kept_code new code kept err in
      (err, inr (rw (data_grows before after grows) (stands (λ is. let same : code ≡ InternalError = cc in other same))))
]

-- ---- the end of the input

-- it makes nothing wrong with the checksum
stays_right : ChunksStay → ChunksEndIncomplete → (algorithm : ChecksumAlgorithm) (terms : TrailerTerms) (bytes : List ℕ) (verdict : unsigned.Verdict)
    → chunks_verdict terms bytes false ≡ verdict → wrong_in algorithm verdict ≡ None → wrong_in algorithm (chunks_verdict terms bytes true) ≡ None
stays_right stay incomplete algorithm terms bytes (unsigned.Open held) is right = ap (wrong_in algorithm) (incomplete terms bytes held is)
stays_right stay incomplete algorithm terms bytes (unsigned.Refused place code) is right =
    ap (wrong_in algorithm) (ap (λ (t : List ℕ). chunks_verdict terms t true) (sym (append-nil bytes)) ∙ stay terms bytes [] true (subst IsDecided (sym is) tt) ∙ is)
stays_right stay incomplete algorithm terms bytes (unsigned.Accepted held value) is right =
    ap (wrong_in algorithm) (ap (λ (t : List ℕ). chunks_verdict terms t true) (sym (append-nil bytes)) ∙ stay terms bytes [] true (subst IsDecided (sym is) tt) ∙ is) ∙ right

ended_right : ChunksJudge → ChunksStay → ChunksEndIncomplete → (old new : TrailedReader) (algorithm : ChecksumAlgorithm) (terms : TrailerTerms) (bytes : List ℕ)
    → TrailedStands old algorithm terms bytes false → old.wrong ≡ None → ChunksStand new.chunks terms bytes true old.summed.bytes
    → wrong_in algorithm (chunks_by new.chunks old.summed.bytes) ≡ None
ended_right judge stay incomplete old new algorithm terms bytes stood right shows =
    let held = old.summed.bytes in
    ap (wrong_in algorithm) (judge new.chunks terms bytes true held shows)
    ∙ stays_right stay incomplete algorithm terms bytes (chunks_by old.chunks held) (sym (judge old.chunks terms bytes false held stood.shows)) (sym stood.judged ∙ right)

pub trailed_ended : ChunksJudge → ChunksStay → ChunksEndIncomplete → (old new : TrailedReader) (algorithm : ChecksumAlgorithm) (terms : TrailerTerms) (bytes : List ℕ) (result : Result ⊤ Code)
    → TrailedStands old algorithm terms bytes false → old.wrong ≡ None → new.wrong ≡ None → new.summed ≡ old.summed
    → ChunksStand new.chunks terms bytes true old.summed.bytes → OnOk result (chunks_done new.chunks) → IfErr result (ChunksFailed new.chunks)
    → EndedTo (TrailedStands new algorithm terms bytes true) (TrailedFailed new) (TrailedDone new) result
trailed_ended judge stay incomplete old new algorithm terms bytes (Ok all) stood was right same shows ok err = (
  record {
    kind = ap (λ (s : SummedState). s.algorithm) same ∙ stood.kind;
    shows = rw same shows;
    judged = right ∙ sym (rw same (ended_right judge stay incomplete old new algorithm terms bytes stood was shows));
  },
  (right, ok),
)
trailed_ended judge stay incomplete old new algorithm terms bytes (Err code) stood was right same shows ok err = (
  record {
    kind = ap (λ (s : SummedState). s.algorithm) same ∙ stood.kind;
    shows = rw same shows;
    judged = right ∙ sym (rw same (ended_right judge stay incomplete old new algorithm terms bytes stood was shows));
  },
  rw right err,
)

-- what the chunks say there is said of the body
pub said_told : (verdict : unsigned.Verdict) (taken : ℕ) → unsigned_reader.said_at_end verdict ≡ said_at_end (told_by None taken verdict)
said_told (unsigned.Refused place code) taken = refl
said_told (unsigned.Accepted held value) taken = refl
said_told (unsigned.Open held) taken = refl

-- what is refused at the end of the input is not handed out
said_wrong : (verdict : payload.Verdict) (code : Code) → Err code ≡ said_at_end verdict → Err code ≡ finished verdict
said_wrong (payload.Refused place other) code is = let same : code ≡ other = cc in ap (λ (c : Code). Err c) same
said_wrong (payload.Accepted held) code is = absurd (cc)
said_wrong (payload.Open held) code is = let same = is in cc

pub finish_refused : (reader : TrailedReader) (code : Code) → Err code ≡ said_at_end (trailed_by reader)
    → ◌≡◌ {A = Result (List ℕ) Code} (Err code) (finished (trailed_by reader))
finish_refused reader code is = said_wrong (trailed_by reader) code is
