-- What the clauses of the reader come to: laws about every reader, and every body.
use Rattle.std.specs.Prelude.{◌≡◌, ℕ, ◌≤◌, Bool, List, length, min}
use Rattle.s3_terms.specs.declared.code.Code.{Code}
use Rattle.s3_signing.specs.Chain.{Link}
use Rattle.s3_aws_chunked.specs.Verdict.{Terms, Accepted, IsAccepted, Judges}
use Rattle.s3_aws_chunked.specs.Write.{Writes}
use Rattle.s3_aws_chunked.specs.Reader.{Stands, Failed, taken_of, verdict_of}
use Rattle.s3_aws_chunked.specs.declared.reader.ChunkReader.{ChunkReader}

-- a reader that stands after some bytes says of its body what they say, and gave the data so far
abbrev pub ReadersJudge : Type 0
ReadersJudge =
    (reader : ChunkReader) (terms : Terms) (bytes : List ℕ) (ended : Bool) (held : List ℕ)
    → Stands reader terms bytes ended held → Judges terms bytes ended (verdict_of reader held)

-- where it refused nothing, it has taken all of them up to Content-Length
abbrev pub ReadersCount : Type 0
ReadersCount =
    (reader : ChunkReader) (terms : Terms) (bytes : List ℕ) (ended : Bool) (held : List ℕ)
    → Stands reader terms bytes ended held → ((code : Code) → Failed reader code → ⊥)
    → taken_of reader ≡ min terms.encoded (length bytes)

-- and never more than have come
abbrev pub ReadersStayWithin : Type 0
ReadersStayWithin =
    (reader : ChunkReader) (terms : Terms) (bytes : List ℕ) (ended : Bool) (held : List ℕ)
    → Stands reader terms bytes ended held → taken_of reader ≤ length bytes

-- a body of the form, with the chain's signatures and the decoded length, is refused at no place: it is accepted
abbrev pub BodiesAreAccepted : Type 0
BodiesAreAccepted =
    (terms : Terms) (bytes held : List ℕ) (ended : Bool) → IsAccepted terms bytes held → Judges terms bytes ended (Accepted held)

-- and so is what is written, with its data, by what a head says of it
abbrev pub WritingsAreAccepted : Type 0
WritingsAreAccepted =
    (seed : Link) (bytes : List ℕ) (size : ℕ) (text : List ℕ) (ended : Bool) → Writes seed bytes size text
    → Judges (record { seed = seed; encoded = length text; decoded = length bytes }) text ended (Accepted bytes)

-- and is one text
abbrev pub WritingsAreOne : Type 0
WritingsAreOne =
    (seed : Link) (bytes : List ℕ) (size : ℕ) (one other : List ℕ) → Writes seed bytes size one → Writes seed bytes size other → one ≡ other
