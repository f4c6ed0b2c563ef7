-- How a reader of chunks stands that have a trailer behind them, and are signed or not.
-- Only clauses of private functions cite these, and nobody has to believe them.
use Rattle.std.specs.Prelude.{◌≡◌, ℕ, ◌<◌, ◌≤◌, Bool, true, false, min, List, ◌++◌, length, take, Option, Some, None}
use Rattle.s3_terms.specs.declared.code.Code.{Code}
use Rattle.s3_terms.specs.declared.code.Code.TheVariants.{IncompleteBody}
use Rattle.s3_signing.specs.Chain.{Link}
use Rattle.s3_unsigned_chunks.specs.Finality.{IsDecided}
use Rattle.s3_unsigned_chunks.specs.Verdict.{Verdict, Refused, Accepted, Open}
use Rattle.s3_unsigned_chunks.specs.Reader as unsigned
use Rattle.s3_aws_chunked.specs.TrailedReader as signed
use Rattle.s3_payloads.specs.Verdict.{TrailerTerms, chunks_verdict, signed_terms, unsigned_terms}
use Rattle.s3_payloads.specs.declared.either_chunks.EitherChunks.{EitherChunks}
use Rattle.s3_payloads.specs.declared.either_chunks.EitherChunks.TheVariants.{Unsigned, Signed}

abbrev pub StandBy : Option Link → EitherChunks → TrailerTerms → List ℕ → Bool → List ℕ → Type 0
StandBy None (Unsigned chunks) terms bytes ended held = unsigned.Stands chunks (unsigned_terms terms) bytes ended held
StandBy (Some seed) (Signed chunks) terms bytes ended held = signed.Stands chunks (signed_terms terms seed) bytes ended held
StandBy None (Signed chunks) terms bytes ended held = ⊥
StandBy (Some seed) (Unsigned chunks) terms bytes ended held = ⊥

-- after these bytes of a body with these terms, and the end of the input where it has ended, the reader stands so, and gave
-- this data to its sinks; memory never ran out
abbrev pub ChunksStand : EitherChunks → TrailerTerms → List ℕ → Bool → List ℕ → Type 0
ChunksStand chunks terms bytes ended held = StandBy terms.seed chunks terms bytes ended held

-- memory ran out
abbrev pub chunks_lost : EitherChunks → Bool
chunks_lost (Unsigned chunks) = chunks.lost
chunks_lost (Signed chunks) = chunks.lost

-- the code with which it has refused
abbrev pub chunks_refusal : EitherChunks → Option Code
chunks_refusal (Unsigned chunks) = unsigned.refusal_of chunks
chunks_refusal (Signed chunks) = signed.refusal_of chunks

abbrev pub ChunksFailed : EitherChunks → Code → Type 0
ChunksFailed chunks code = chunks_refusal chunks ≡ Some code

-- it has read all chunks and the trailer, with nothing wrong
abbrev pub chunks_done : EitherChunks → Type 0
chunks_done (Unsigned chunks) = unsigned.IsDone chunks
chunks_done (Signed chunks) = signed.IsDone chunks

-- how many bytes it has taken
abbrev pub chunks_taken : EitherChunks → ℕ
chunks_taken (Unsigned chunks) = unsigned.taken_of chunks
chunks_taken (Signed chunks) = signed.taken_of chunks

-- the value of the trailer
abbrev pub chunks_value : EitherChunks → List ℕ
chunks_value (Unsigned chunks) = unsigned.value_of chunks
chunks_value (Signed chunks) = signed.value_of chunks

-- what it says of the body, if it gave this data
abbrev pub chunks_by : EitherChunks → List ℕ → Verdict
chunks_by (Unsigned chunks) held = unsigned.verdict_by chunks held
chunks_by (Signed chunks) held = signed.verdict_by chunks held

-- ---- what is known of them, signed or not

-- a reader that stands after some bytes says of its body what they say
abbrev pub ChunksJudge : Type 0
ChunksJudge =
    (chunks : EitherChunks) (terms : TrailerTerms) (bytes : List ℕ) (ended : Bool) (held : List ℕ)
    → ChunksStand chunks terms bytes ended held → chunks_by chunks held ≡ chunks_verdict terms bytes ended

-- where it refused nothing, it has taken them all, up to the end of Content-Length
abbrev pub ChunksCount : Type 0
ChunksCount =
    (chunks : EitherChunks) (terms : TrailerTerms) (bytes : List ℕ) (ended : Bool) (held : List ℕ)
    → ChunksStand chunks terms bytes ended held → ((code : Code) → ChunksFailed chunks code → ⊥)
    → chunks_taken chunks ≡ min terms.encoded (length bytes)

-- and never more than have come
abbrev pub ChunksStayWithin : Type 0
ChunksStayWithin =
    (chunks : EitherChunks) (terms : TrailerTerms) (bytes : List ℕ) (ended : Bool) (held : List ℕ)
    → ChunksStand chunks terms bytes ended held → chunks_taken chunks ≤ length bytes

-- what was decided stays decided
abbrev pub ChunksStay : Type 0
ChunksStay =
    (terms : TrailerTerms) (bytes more : List ℕ) (ended : Bool) → IsDecided (chunks_verdict terms bytes false)
    → chunks_verdict terms (bytes ++ more) ended ≡ chunks_verdict terms bytes false

-- the end decides
abbrev pub ChunksEnd : Type 0
ChunksEnd = (terms : TrailerTerms) (bytes : List ℕ) → IsDecided (chunks_verdict terms bytes true)

-- what is open lacks bytes
abbrev pub ChunksAreShort : Type 0
ChunksAreShort =
    (terms : TrailerTerms) (bytes held : List ℕ) → chunks_verdict terms bytes false ≡ Open held → length bytes < terms.encoded

-- and is incomplete where its input ends
abbrev pub ChunksEndIncomplete : Type 0
ChunksEndIncomplete =
    (terms : TrailerTerms) (bytes held : List ℕ) → chunks_verdict terms bytes false ≡ Open held
    → chunks_verdict terms bytes true ≡ Refused (length bytes) IncompleteBody

-- a refusal stands at its place
abbrev pub ChunksRefusalsStand : Type 0
ChunksRefusalsStand =
    (terms : TrailerTerms) (bytes : List ℕ) (place : ℕ) (code : Code) → chunks_verdict terms bytes false ≡ Refused place code
    → (place ≤ length bytes) × (chunks_verdict terms (take place bytes) false ≡ Refused place code)

-- what is accepted has come
abbrev pub ChunksAreWhole : Type 0
ChunksAreWhole =
    (terms : TrailerTerms) (bytes : List ℕ) (ended : Bool) (held value : List ℕ) → chunks_verdict terms bytes ended ≡ Accepted held value
    → terms.encoded ≤ length bytes
