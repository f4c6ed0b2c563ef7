-- How the reader of a body stands that has a checksum behind its chunks.
-- Only clauses of private functions cite these, and nobody has to believe them.
use Rattle.std.specs.Prelude.{◌≡◌, ℕ, ◌≤◌, ◌<◌, Bool, true, false, min, List, ◌++◌, length, take, Option, Some, None, Result, Ok, Err}
use Rattle.s3_terms.specs.declared.code.Code.{Code}
use Rattle.s3_terms.specs.declared.code.Code.TheVariants.{IncompleteBody}
use Rattle.s3_aws_chunked.specs.Verdict.{Verdict, Accepted, Open, Refused}
use Rattle.s3_aws_chunked.specs.Finality.{IsDecided}
use Rattle.s3_integrity.specs.declared.algorithm.ChecksumAlgorithm.{ChecksumAlgorithm}
use Rattle.s3_unsigned_chunks.specs.Verdict as unsigned
use Rattle.s3_payloads.specs.declared.trailed.TrailedReader.{TrailedReader}
use Rattle.s3_payloads.specs.Summed.{fault_in}
use Rattle.s3_payloads.specs.EitherChunks.{ChunksStand, chunks_by, chunks_done, chunks_refusal, chunks_taken}
use Rattle.s3_payloads.specs.declared.either_chunks.EitherChunks.{EitherChunks}
use Rattle.s3_payloads.specs.Verdict.{chunks_verdict, trailed_data, trailed_verdict}
use Rattle.s3_payloads.specs.Verdict.{TrailerTerms as Terms}

-- what is wrong with the checksum, by what is known of the chunks
abbrev pub wrong_in : ChecksumAlgorithm → unsigned.Verdict → Option Code
wrong_in algorithm (unsigned.Refused place code) = None
wrong_in algorithm (unsigned.Accepted bytes value) = fault_in (trailed_data algorithm value bytes)
wrong_in algorithm (unsigned.Open bytes) = None

-- after these bytes of a body with these terms, and the end of the input where it has ended, the reader has the data of
-- the chunks, and knows what is wrong with their checksum; memory never ran out
pub record TrailedStands (reader : TrailedReader) (algorithm : ChecksumAlgorithm) (terms : Terms) (bytes : List ℕ) (ended : Bool)
    : Type 0 where
  pub kind : reader.summed.algorithm ≡ algorithm
  pub shows : ChunksStand reader.chunks terms bytes ended reader.summed.bytes
  pub judged : reader.wrong ≡ wrong_in algorithm (chunks_by reader.chunks reader.summed.bytes)

-- what is said of a body by its chunks, of which so many bytes were taken, and by what is wrong with its checksum
abbrev pub told_by : Option Code → ℕ → unsigned.Verdict → Verdict
told_by (Some code) taken verdict = Refused taken code
told_by None taken (unsigned.Refused place code) = Refused place code
told_by None taken (unsigned.Accepted bytes value) = Accepted bytes
told_by None taken (unsigned.Open bytes) = Open bytes

-- what the reader says of its body
abbrev pub trailed_by : TrailedReader → Verdict
trailed_by reader =
    told_by reader.wrong (chunks_taken reader.chunks) (chunks_by reader.chunks reader.summed.bytes)

-- the code of a refusal: of the checksum, or of the chunks
abbrev pub refusal_by : Option Code → EitherChunks → Option Code
refusal_by (Some code) chunks = Some code
refusal_by None chunks = chunks_refusal chunks

-- the reader has refused with this code
abbrev pub TrailedFailed : TrailedReader → Code → Type 0
TrailedFailed reader code = refusal_by reader.wrong reader.chunks ≡ Some code

-- it has read a whole body, with nothing wrong
abbrev pub TrailedDone : TrailedReader → Type 0
TrailedDone reader = (reader.wrong ≡ None) × chunks_done reader.chunks

-- how many bytes of the body it has taken
abbrev pub trailed_taken : TrailedReader → ℕ
trailed_taken reader = chunks_taken reader.chunks

-- what is answered, where so many bytes of a piece were taken
abbrev pub answered_by : Option Code → ℕ → Result ℕ Code
answered_by (Some code) count = Err code
answered_by None count = Ok count

-- ---- what is known of every such body, as laws

-- the verdict on these bytes
abbrev pub verdict_on : ChecksumAlgorithm → Terms → List ℕ → Bool → Verdict
verdict_on algorithm terms bytes ended = trailed_verdict algorithm terms.encoded (chunks_verdict terms bytes ended)

-- a reader that stands after some bytes of a body says of it what they say
abbrev pub TrailedJudge : Type 0
TrailedJudge =
    (reader : TrailedReader) (algorithm : ChecksumAlgorithm) (terms : Terms) (bytes : List ℕ) (ended : Bool)
    → TrailedStands reader algorithm terms bytes ended → trailed_by reader ≡ verdict_on algorithm terms bytes ended

-- where it has refused nothing, it has taken them all, up to the end of Content-Length
abbrev pub TrailedCount : Type 0
TrailedCount =
    (reader : TrailedReader) (algorithm : ChecksumAlgorithm) (terms : Terms) (bytes : List ℕ) (ended : Bool)
    → TrailedStands reader algorithm terms bytes ended → ((code : Code) → ¬ (TrailedFailed reader code))
    → trailed_taken reader ≡ min terms.encoded (length bytes)

-- and never more than have come
abbrev pub TrailedStayWithin : Type 0
TrailedStayWithin =
    (reader : TrailedReader) (algorithm : ChecksumAlgorithm) (terms : Terms) (bytes : List ℕ) (ended : Bool)
    → TrailedStands reader algorithm terms bytes ended → trailed_taken reader ≤ length bytes

-- what was decided before the end of the input stays decided
abbrev pub TrailedStay : Type 0
TrailedStay =
    (algorithm : ChecksumAlgorithm) (terms : Terms) (bytes more : List ℕ) (ended : Bool)
    → IsDecided (verdict_on algorithm terms bytes false)
    → verdict_on algorithm terms (bytes ++ more) ended ≡ verdict_on algorithm terms bytes false

-- its end decides
abbrev pub TrailedEnd : Type 0
TrailedEnd =
    (algorithm : ChecksumAlgorithm) (terms : Terms) (bytes : List ℕ) → IsDecided (verdict_on algorithm terms bytes true)

-- what is open lacks bytes
abbrev pub TrailedAreShort : Type 0
TrailedAreShort =
    (algorithm : ChecksumAlgorithm) (terms : Terms) (bytes held : List ℕ)
    → Open held ≡ verdict_on algorithm terms bytes false → length bytes < terms.encoded

-- and is incomplete where its input ends
abbrev pub TrailedEndIncomplete : Type 0
TrailedEndIncomplete =
    (algorithm : ChecksumAlgorithm) (terms : Terms) (bytes held : List ℕ)
    → Open held ≡ verdict_on algorithm terms bytes false
    → Refused (length bytes) IncompleteBody ≡ verdict_on algorithm terms bytes true

-- a refusal stands at its place
abbrev pub TrailedRefusalsStand : Type 0
TrailedRefusalsStand =
    (algorithm : ChecksumAlgorithm) (terms : Terms) (bytes : List ℕ) (place : ℕ) (code : Code)
    → Refused place code ≡ verdict_on algorithm terms bytes false
    → (place ≤ length bytes) × (Refused place code ≡ verdict_on algorithm terms (take place bytes) false)

-- what is accepted has come
abbrev pub TrailedAreWhole : Type 0
TrailedAreWhole =
    (algorithm : ChecksumAlgorithm) (terms : Terms) (bytes payload : List ℕ) (ended : Bool)
    → Accepted payload ≡ verdict_on algorithm terms bytes ended → terms.encoded ≤ length bytes
