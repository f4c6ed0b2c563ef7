-- What is known of every body with a trailer: its verdicts are final and stand at their place, and a reader says them.
use Rattle.std.specs.Prelude.{◌≡◌, ℕ, ◌<◌, ◌≤◌, Bool, true, false, min, List, ◌++◌, length, take}
use Rattle.s3_terms.specs.declared.code.Code.{Code}
use Rattle.s3_terms.specs.declared.code.Code.TheVariants.{IncompleteBody}
use Rattle.s3_unsigned_chunks.specs.Finality.{IsDecided}
use Rattle.s3_unsigned_chunks.specs.Verdict.{Refused, Open}
use Rattle.s3_aws_chunked.specs.Trailed.{TrailedTerms, verdict_of}
use Rattle.s3_aws_chunked.specs.TrailedReader.{Stands, Failed, taken_of, verdict_by}
use Rattle.s3_aws_chunked.specs.declared.trailed_reader.TrailedChunkReader.{TrailedChunkReader}

-- a reader that stands after some bytes says of its body what they say
abbrev pub ReadersJudge : Type 0
ReadersJudge =
    (reader : TrailedChunkReader) (terms : TrailedTerms) (bytes : List ℕ) (ended : Bool) (held : List ℕ)
    → Stands reader terms bytes ended held → verdict_by reader held ≡ verdict_of terms bytes ended

-- where it refused nothing, it has taken all of them up to Content-Length
abbrev pub ReadersCount : Type 0
ReadersCount =
    (reader : TrailedChunkReader) (terms : TrailedTerms) (bytes : List ℕ) (ended : Bool) (held : List ℕ)
    → Stands reader terms bytes ended held → ((code : Code) → Failed reader code → ⊥)
    → taken_of reader ≡ min terms.chunks.encoded (length bytes)

-- and never more than have come
abbrev pub ReadersStayWithin : Type 0
ReadersStayWithin =
    (reader : TrailedChunkReader) (terms : TrailedTerms) (bytes : List ℕ) (ended : Bool) (held : List ℕ)
    → Stands reader terms bytes ended held → taken_of reader ≤ length bytes

-- what was decided before the end of the input stays decided, whatever follows, and whether or not that is the end
abbrev pub VerdictsStay : Type 0
VerdictsStay =
    (terms : TrailedTerms) (bytes more : List ℕ) (ended : Bool) → IsDecided (verdict_of terms bytes false)
    → verdict_of terms (bytes ++ more) ended ≡ verdict_of terms bytes false

-- once no more bytes come, something is decided
abbrev pub EndsDecide : Type 0
EndsDecide = (terms : TrailedTerms) (bytes : List ℕ) → IsDecided (verdict_of terms bytes true)

-- a body that is open lacks bytes: where all bytes of Content-Length have come, something is decided
abbrev pub OpenBodiesAreShort : Type 0
OpenBodiesAreShort =
    (terms : TrailedTerms) (bytes held : List ℕ) → verdict_of terms bytes false ≡ Open held → length bytes < terms.chunks.encoded

-- and is incomplete where its input ends there
abbrev pub OpenBodiesEndIncomplete : Type 0
OpenBodiesEndIncomplete =
    (terms : TrailedTerms) (bytes held : List ℕ) → verdict_of terms bytes false ≡ Open held
    → verdict_of terms bytes true ≡ Refused (length bytes) IncompleteBody

-- a refusal stands at its place: the bytes up to there have come, and are refused for themselves
abbrev pub RefusalsStand : Type 0
RefusalsStand =
    (terms : TrailedTerms) (bytes : List ℕ) (place : ℕ) (code : Code) → verdict_of terms bytes false ≡ Refused place code
    → (place ≤ length bytes) × (verdict_of terms (take place bytes) false ≡ Refused place code)

-- also one that comes with the end of the input is at no byte behind those that have come
abbrev pub RefusalsStayWithin : Type 0
RefusalsStayWithin =
    (terms : TrailedTerms) (bytes : List ℕ) (ended : Bool) (place : ℕ) (code : Code) → verdict_of terms bytes ended ≡ Refused place code
    → place ≤ length bytes
