-- What is known of a body that is signed in chunks after some of its bytes: it is refused at a place, accepted
-- with its data, or still open.
use Rattle.std.specs.Prelude.{◌≡◌, ℕ, ◌+◌, ◌-◌, ◌<◌, ◌≤◌, ◌⊎◌, Bool, true, false, List, [], ◌∷◌, ◌++◌, length, take}
use Rattle.s3_terms.specs.declared.code.Code.{Code}
use Rattle.s3_terms.specs.declared.code.Code.TheVariants.{InvalidRequest, SignatureDoesNotMatch, IncompleteBody}
use Rattle.s3_text.specs.Digest.{is_hex_digest}
use Rattle.s3_signing.specs.Chain.{Link, chunk_signature}
use Rattle.s3_aws_chunked.specs.Chunk.{Chunk, IsChunk, is_size, size_of, first_line, chunk_text, chunks_text, data_of}
use Rattle.s3_aws_chunked.specs.Body.{HoldData, IsBody, Begins, AreSigned, link_after}

-- what a head says of its body: what the chain of signatures begins with, Content-Length, which counts the
-- chunks as they are sent, and x-amz-decoded-content-length, which counts their data
pub record Terms : Type 0 where
  pub seed : Link
  pub encoded : ℕ
  pub decoded : ℕ

-- the text is chunks of data and then a chunk's first line, and with this one the sizes come to `total`
pub record EndsLine (text : List ℕ) (total : ℕ) : Type 0 where
  pub chunks : List Chunk
  pub size : List ℕ
  pub signature : List ℕ
  pub each : HoldData chunks
  pub form : is_size size ≡ true
  pub signed : is_hex_digest signature ≡ true
  pub written : text ≡ chunks_text chunks ++ first_line size signature
  pub sum : total ≡ length (data_of chunks) + size_of size

-- the text is chunks of data and then this chunk, of some or of none
pub record EndsChunk (text : List ℕ) (chunks : List Chunk) (chunk : Chunk) : Type 0 where
  pub each : HoldData chunks
  pub form : IsChunk chunk
  pub written : text ≡ chunks_text chunks ++ chunk_text chunk

-- the chunk's signature is the one of its data over the signature before it
abbrev pub IsSigned : Terms → List Chunk → Chunk → Type 0
IsSigned terms chunks chunk = chunk.signature ≡ chunk_signature (link_after terms.seed chunks) chunk.bytes

-- the lines of the table of refusals, each as what is wrong once the text has come

-- it begins no body
abbrev pub IsMisspelled : List ℕ → Type 0
IsMisspelled text = ¬ (Begins text)

-- a first line has ended, and the sizes so far exceed the decoded length
abbrev pub Exceeds : Terms → List ℕ → Type 0
Exceeds terms text = (total : ℕ) × EndsLine text total × (terms.decoded < total)

-- a chunk has ended, and its signature is not the formula
abbrev pub IsForged : Terms → List ℕ → Type 0
IsForged terms text = (chunks : List Chunk) × (chunk : Chunk) × EndsChunk text chunks chunk × ¬ (IsSigned terms chunks chunk)

-- the empty chunk has ended, signed by the formula, and the sizes come to `total`
abbrev pub IsEnded : Terms → List ℕ → ℕ → Type 0
IsEnded terms text total =
    (chunks : List Chunk) × (last : Chunk) × IsBody text chunks last × IsSigned terms chunks last × (total ≡ length (data_of chunks))

-- then the sizes come to less than the decoded length
abbrev pub FallsShort : Terms → List ℕ → Type 0
FallsShort terms text = (total : ℕ) × IsEnded terms text total × (total < terms.decoded)

-- or they come to it, and bytes of Content-Length are left
abbrev pub LeavesBytes : Terms → List ℕ → Type 0
LeavesBytes terms text = IsEnded terms text terms.decoded × (length text < terms.encoded)

-- it has all bytes of Content-Length, and no empty chunk has ended
abbrev pub IsCutByLength : Terms → List ℕ → Type 0
IsCutByLength terms text = (length text ≡ terms.encoded) × ((chunks : List Chunk) (last : Chunk) → ¬ (IsBody text chunks last))

-- the table, each line with its code; `ends` says that the input ends behind the text
abbrev pub table : Terms → List ℕ → Type 0 → List (Type 0 × Code)
table terms text ends =
    (IsMisspelled text, InvalidRequest)
    ∷ (Exceeds terms text, InvalidRequest)
    ∷ (IsForged terms text, SignatureDoesNotMatch)
    ∷ (FallsShort terms text, IncompleteBody)
    ∷ (LeavesBytes terms text, InvalidRequest)
    ∷ (IsCutByLength terms text, IncompleteBody)
    ∷ (ends × (length text < terms.encoded), IncompleteBody)
    ∷ []

-- this is the code of the first line that applies
abbrev pub FirstLine : List (Type 0 × Code) → Code → Type 0
FirstLine [] code = ⊥
FirstLine (line ∷ lines) code = (line.0 × (code ≡ line.1)) ⊎ (¬ line.0 × FirstLine lines code)

-- the code of the first line that applies to the first so many of the bytes
abbrev pub FaultAt : Terms → List ℕ → Bool → ℕ → Code → Type 0
FaultAt terms bytes ended place code =
    FirstLine (table terms (take place bytes) ((ended ≡ true) × (length bytes ≡ place))) code

-- refused at this place with this code: at the least count of bytes at which a line applies; no byte behind
-- Content-Length is judged
pub record IsRefused (terms : Terms) (bytes : List ℕ) (ended : Bool) (place : ℕ) (code : Code) : Type 0 where
  pub within : place ≤ terms.encoded
  pub come : place ≤ length bytes
  pub fault : FaultAt terms bytes ended place code
  pub least : (earlier : ℕ) (other : Code) → earlier < place → ¬ (FaultAt terms bytes ended earlier other)

-- it is refused at no place
abbrev pub IsUnrefused : Terms → List ℕ → Bool → Type 0
IsUnrefused terms bytes ended = (place : ℕ) (code : Code) → ¬ (IsRefused terms bytes ended place code)

-- the bytes of Content-Length are a body whose signatures are the chain, and whose data has the decoded length
pub record IsAccepted (terms : Terms) (bytes held : List ℕ) : Type 0 where
  pub come : terms.encoded ≤ length bytes
  pub chunks : List Chunk
  pub last : Chunk
  pub body : IsBody (take terms.encoded bytes) chunks last
  pub signed : AreSigned terms.seed (chunks ++ last ∷ [])
  pub sum : length held ≡ terms.decoded
  pub joined : held ≡ data_of chunks

-- the data so far: that of the chunks of data that the text begins with, and what of the text stands in the
-- data of the chunk behind them, of which the text has the front
pub record HoldsSoFar (text held : List ℕ) : Type 0 where
  pub chunks : List Chunk
  pub chunk : Chunk
  pub each : HoldData chunks
  pub form : IsChunk chunk
  pub front : List ℕ
  pub rest : List ℕ
  pub written : text ≡ chunks_text chunks ++ front
  pub begun : chunk_text chunk ≡ front ++ rest
  pub joined : held ≡ data_of chunks ++ take (length front - length (first_line chunk.size chunk.signature)) chunk.bytes

-- what is known of a body
pub data Verdict : Type 0 where
  Refused : ℕ → Code → Verdict
  Accepted : List ℕ → Verdict
  Open : List ℕ → Verdict

-- whether the body is accepted
abbrev pub accepts : Verdict → Bool
accepts (Accepted held) = true
accepts (Refused place code) = false
accepts (Open held) = false

-- what these bytes of a body say of it, where `ended` says that no more come
abbrev pub Judges : Terms → List ℕ → Bool → Verdict → Type 0
Judges terms bytes ended (Refused place code) = IsRefused terms bytes ended place code
Judges terms bytes ended (Accepted held) = IsUnrefused terms bytes ended × IsAccepted terms bytes held
Judges terms bytes ended (Open held) =
    IsUnrefused terms bytes ended × ((others : List ℕ) → ¬ (IsAccepted terms bytes others))
    × HoldsSoFar (take terms.encoded bytes) held
