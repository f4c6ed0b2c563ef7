-- What the calls of a reader of signed chunks bring, with the data that is kept.
use Rattle.std.proofs.Common.{◌≡◌, ◌≢◌, ◌⊎◌, ℕ, ◌+◌, ◌<◌, true, false, List, ◌++◌, length, refl, ap, ◌∙◌, arith, Option, None, Some, Result, Ok, Err, inl, inr, ⊎_elim}
use Rattle.std.specs.Prelude.{⊤, IfOk, IfErr, OnOk, option_map}
use Rattle.std.proofs.lemmas.Bool.{cases_Bool}
use Rattle.std.proofs.lemmas.List.{length-append}
use Rattle.s3_terms.specs.declared.code.Code.{Code}
use Rattle.s3_terms.specs.declared.code.Code.TheVariants.{InternalError}
use Rattle.s3_aws_chunked.specs.Verdict.{Terms}
use Rattle.s3_aws_chunked.specs.Decoder.{code_of, fault_at}
use Rattle.s3_aws_chunked.specs.Reader.{Failed, Stands, taken_of}
use Rattle.s3_aws_chunked.specs.Laws.{ReadersCount}
use Rattle.s3_aws_chunked.specs.Sinks.{Grows, got}
use Rattle.s3_aws_chunked.specs.declared.phase.Fault.{Fault}
use Rattle.s3_aws_chunked.specs.declared.phase.Fault.TheVariants as faults
use Rattle.s3_aws_chunked.specs.declared.reader.ChunkReader.{ChunkReader}
use Rattle.s3_payloads.specs.Outcome.{EndedTo, FedTo, part_of}

-- what the end of input brings
pub ended_by : (result : Result ⊤ Code) (stands : Type 0) (failed : Code → Type 0) (done : Type 0) → stands → OnOk result done → IfErr result failed
    → EndedTo stands failed done result
ended_by (Ok all) stands failed done is ok err = (is, ok)
ended_by (Err code) stands failed done is ok err = (is, err)

-- a fault of a body never says that memory ran out
fault_other : (fault : Fault) → code_of fault ≢ InternalError
fault_other faults.Invalid is = cc
fault_other faults.Forged is = cc
fault_other faults.Incomplete is = cc

fault_code : (fault : Option Fault) (code : Code) → option_map code_of fault ≡ Some code → code ≢ InternalError
fault_code None code is same = cc
fault_code (Some fault) code is same =
    let found : code_of fault ≡ code = cc in
    fault_other fault (found ∙ same)

-- a reader for which memory has not run out refuses with another code
kept_code : (reader : ChunkReader) (code : Code) → reader.lost ≡ false → Failed reader code → code ≢ InternalError
kept_code reader code kept failed = fault_code (fault_at reader.decoder.place.phase) code (rw kept at failed)

-- and one for which it has, with this one
lost_code : (reader : ChunkReader) (code : Code) → reader.lost ≡ true → Failed reader code → code ≡ InternalError
lost_code reader code lost failed = let is = rw lost at failed in cc

-- what a piece brings
pub chunks_fed : ReadersCount → (old new : ChunkReader) (before after : List ℕ) (terms : Terms) (bytes piece : List ℕ) (result : Result ℕ Code)
    → Stands old terms bytes false before
    → (result ≢ Err InternalError → Stands new terms (bytes ++ piece) false (before ++ got before after))
    → IfOk result (λ n. (code : Code) → ¬ (Failed new code))
    → IfErr result (λ code. Failed new code)
    → IfOk result (λ n. taken_of new ≡ taken_of old + n)
    → ((code : Code) → Failed old code → result ≡ Err code)
    → Grows before after
    → (result ≡ Err InternalError → Failed old InternalError ⊎ (0 < length piece))
    → (result ≡ Err InternalError → length bytes < terms.encoded)
    → FedTo piece (part_of terms.encoded bytes piece) (Stands new terms (bytes ++ piece) false after) (Failed new) result
chunks_fed counts old new before after terms bytes piece (Ok n) stood stands ok err count refuses grows memory short =
    let stands_now : Stands new terms (bytes ++ piece) false after = rw grows (stands (λ is. cc)) in
    let was = counts old terms bytes false before stood (λ code failed. let is = refuses code failed in cc) in
    let is = counts new terms (bytes ++ piece) false after stands_now ok in
    (omega (arith, was, is, count, length-append bytes piece), stands_now, ok)
chunks_fed counts old new before after terms bytes piece (Err code) stood stands ok err count refuses grows memory short = elim (cases_Bool new.lost) [
  | inl lost ↦
      let same : code ≡ InternalError = lost_code new code lost err in
      let ran : Err code ≡ Err InternalError = ap (λ (c : Code). Err c) same in
      let some : 0 < length piece = ⊎_elim (λ failed. absurd (kept_code old InternalError stood.kept failed refl)) (λ some. some) (memory ran) in
      (err, inl (same, omega (arith, some, short ran)))
  | inr kept ↦
      let other = kept_code new code kept err in
      (err, inr (rw grows (stands (λ is. let same : code ≡ InternalError = cc in other same))))
]
