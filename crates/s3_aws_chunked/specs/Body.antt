-- A body that is signed in chunks: chunks of data, and then one chunk of none.
use Rattle.std.specs.Prelude.{◌≡◌, ℕ, ◌<◌, List, [], ◌∷◌, ◌++◌, map, length}
use Rattle.std.specs.List.{AllByRecursion}
use Rattle.s3_signing.specs.Chain.{Link, Chain}
use Rattle.s3_aws_chunked.specs.Chunk.{Chunk, IsChunk, chunk_text, chunks_text}

-- a chunk of some data
abbrev pub HoldsData : Chunk → Type 0
HoldsData chunk = IsChunk chunk × (0 < length chunk.bytes)

-- chunks of some data
abbrev pub HoldData : List Chunk → Type 0
HoldData chunks = AllByRecursion HoldsData chunks

-- the text is these chunks of data, and then this one of none
pub record IsBody (text : List ℕ) (chunks : List Chunk) (last : Chunk) : Type 0 where
  pub each : HoldData chunks
  pub form : IsChunk last
  pub empty : last.bytes ≡ []
  pub written : text ≡ chunks_text chunks ++ chunk_text last

-- the text begins some body
pub record Begins (text : List ℕ) : Type 0 where
  pub rest : List ℕ
  pub chunks : List Chunk
  pub last : Chunk
  pub body : IsBody (text ++ rest) chunks last

-- each chunk's signature is the one of its data over the signature before it, the first one's over the seed
abbrev pub AreSigned : Link → List Chunk → Type 0
AreSigned seed chunks = Chain seed (map (λ (chunk : Chunk). chunk.bytes) chunks) (map (λ (chunk : Chunk). chunk.signature) chunks)

-- what the signature after these chunks is made with
abbrev pub link_after : Link → List Chunk → Link
link_after seed [] = seed
link_after seed (chunk ∷ chunks) = link_after (record seed { previous = chunk.signature }) chunks
