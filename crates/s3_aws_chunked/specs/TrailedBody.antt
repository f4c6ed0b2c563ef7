-- A body that is signed in chunks with a trailer behind them, as a text: chunks of data, the first line of a chunk of none, and
-- the trailer.
use Rattle.std.specs.Prelude.{◌≡◌, ℕ, ◌≤◌, Bool, false, List, [], ◌∷◌, ◌++◌, length, take}
use Rattle.sha2.specs.Sha256.{sha256}
use Rattle.s3_terms.specs.declared.code.Code.{Code}
use Rattle.s3_signing.specs.Chain.{trailer_signature}
use Rattle.s3_unsigned_chunks.specs.Verdict.{Refused, Accepted}
use Rattle.s3_aws_chunked.specs.Chunk.{Chunk, IsChunk, chunks_text, data_of, first_line}
use Rattle.s3_aws_chunked.specs.Body.{AreSigned, HoldData, link_after}
use Rattle.s3_aws_chunked.specs.Trailer.{IsTrailer, signed_line}
use Rattle.s3_aws_chunked.specs.Trailed.{TrailedTerms, verdict_of}

-- the text is a body with these terms, with this data and this value of its trailer: all chunks are signed by the chain, and
-- the trailer over the signature of the last one
pub record IsTrailedBody (terms : TrailedTerms) (text held value : List ℕ) : Type 0 where
  pub chunks : List Chunk
  pub last : Chunk
  pub trailer : List ℕ
  pub seal : List ℕ
  pub each : HoldData chunks
  pub form : IsChunk last
  pub empty : last.bytes ≡ []
  pub spelled : IsTrailer terms.name trailer value seal
  pub written : text ≡ (chunks_text chunks ++ first_line last.size last.signature) ++ trailer
  pub signed : AreSigned terms.chunks.seed (chunks ++ last ∷ [])
  pub sealed : seal ≡ trailer_signature (link_after terms.chunks.seed (chunks ++ last ∷ [])) (sha256 (signed_line terms.name value))
  pub joined : held ≡ data_of chunks
  pub decoded : length held ≡ terms.chunks.decoded
  pub encoded : length text ≡ terms.chunks.encoded

-- what is accepted is a body: the bytes of Content-Length, with this data and this value
abbrev pub AcceptedAreBodies : Type 0
AcceptedAreBodies =
    (terms : TrailedTerms) (bytes : List ℕ) (ended : Bool) (held value : List ℕ) → verdict_of terms bytes ended ≡ Accepted held value
    → (terms.chunks.encoded ≤ length bytes) × IsTrailedBody terms (take terms.chunks.encoded bytes) held value

-- and each body is accepted, with its data and its value, whatever stands behind it
abbrev pub BodiesAreAccepted : Type 0
BodiesAreAccepted =
    (terms : TrailedTerms) (bytes : List ℕ) (ended : Bool) (held value : List ℕ) → terms.chunks.encoded ≤ length bytes
    → IsTrailedBody terms (take terms.chunks.encoded bytes) held value → verdict_of terms bytes ended ≡ Accepted held value

-- what is refused before the end of its input begins no body: however the bytes up to the place of the refusal go on, they
-- are none
abbrev pub RefusedBeginNoBody : Type 0
RefusedBeginNoBody =
    (terms : TrailedTerms) (bytes : List ℕ) (place : ℕ) (code : Code) → verdict_of terms bytes false ≡ Refused place code
    → (rest held value : List ℕ) → ¬ (IsTrailedBody terms (take place bytes ++ rest) held value)
