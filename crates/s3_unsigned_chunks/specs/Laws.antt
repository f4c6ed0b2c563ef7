-- What the clauses of the reader come to: laws about every reader.
use Rattle.std.specs.Prelude.{◌≡◌, ℕ, ◌≤◌, Bool, List, length, min}
use Rattle.s3_terms.specs.declared.code.Code.{Code}
use Rattle.s3_unsigned_chunks.specs.Reading.{Terms}
use Rattle.s3_unsigned_chunks.specs.Verdict.{verdict_of}
use Rattle.s3_unsigned_chunks.specs.Reader.{Stands, Failed, taken_of, verdict_by}
use Rattle.s3_unsigned_chunks.specs.declared.reader.UnsignedChunkReader.{UnsignedChunkReader}

-- a reader that stands after some bytes says of its body what they say
abbrev pub ReadersJudge : Type 0
ReadersJudge =
    (reader : UnsignedChunkReader) (terms : Terms) (bytes : List ℕ) (ended : Bool) (held : List ℕ)
    → Stands reader terms bytes ended held → verdict_by reader held ≡ verdict_of terms bytes ended

-- where it refused nothing, it has taken all of them up to Content-Length
abbrev pub ReadersCount : Type 0
ReadersCount =
    (reader : UnsignedChunkReader) (terms : Terms) (bytes : List ℕ) (ended : Bool) (held : List ℕ)
    → Stands reader terms bytes ended held → ((code : Code) → Failed reader code → ⊥)
    → taken_of reader ≡ min terms.encoded (length bytes)

-- and never more than have come
abbrev pub ReadersStayWithin : Type 0
ReadersStayWithin =
    (reader : UnsignedChunkReader) (terms : Terms) (bytes : List ℕ) (ended : Bool) (held : List ℕ)
    → Stands reader terms bytes ended held → taken_of reader ≤ length bytes
