-- The body that is written for some data: chunks of one size, the last one smaller where the data ends, and the
-- empty chunk.
use Rattle.std.specs.Prelude.{◌≡◌, ℕ, ◌+◌, ◌*◌, ◌/◌, ◌%◌, ◌<◌, ◌==◌, if◌then◌else◌, List, [], ◌∷◌, ◌++◌, map, length, take, drop}
use Rattle.std.specs.List.{AllByRecursion}
use Rattle.std.specs.Char.{digit_char}
use Rattle.std.specs.Int.Digits.{digits_of}
use Rattle.s3_signing.specs.Chain.{Link, chunk_signature}
use Rattle.s3_aws_chunked.specs.Chunk.{Chunk, chunks_text, data_of}
use Rattle.s3_aws_chunked.specs.Body.{HoldData, IsBody, AreSigned, link_after}

-- a size as it is written: lower-case hexadecimal digits without zeros in front
unfoldable pub written_size : ℕ → List ℕ
written_size size = if size == 0 then 48 ∷ [] else map digit_char (digits_of 16 size)

-- the chunk that is written for some data
abbrev pub chunk_of : Link → List ℕ → Chunk
chunk_of link bytes = record { size = written_size (length bytes); signature = chunk_signature link bytes; bytes = bytes }

-- the chunks hold the bytes, each so many as `size` says, and the last one what is left
abbrev pub AreCut : ℕ → List Chunk → List ℕ → Type 0
AreCut size [] bytes = bytes ≡ []
AreCut size (chunk ∷ chunks) bytes =
    (0 < length bytes) × (chunk.bytes ≡ take size bytes) × AreCut size chunks (drop size bytes)

abbrev pub IsPlain : Chunk → Type 0
IsPlain chunk = chunk.size ≡ written_size (length chunk.bytes)

-- how long the chunk of so many bytes is: its size, 83 bytes behind that, the data, and the end of a line
abbrev pub chunk_length : ℕ → ℕ
chunk_length count = length (written_size count) + 85 + count

-- how long the chunks of so many bytes are, and the whole body with the empty chunk
abbrev pub chunks_length : ℕ → ℕ → ℕ
chunks_length count size =
    (count / size) * chunk_length size + (if count % size == 0 then 0 else chunk_length (count % size))

unfoldable pub written_length : ℕ → ℕ → ℕ
written_length count size = chunks_length count size + 86

-- the text is a body in chunks of this size, signed from this seed, whose only data is this
pub record Writes (seed : Link) (bytes : List ℕ) (size : ℕ) (text : List ℕ) : Type 0 where
  pub chunks : List Chunk
  pub last : Chunk
  pub body : IsBody text chunks last
  pub signed : AreSigned seed (chunks ++ last ∷ [])
  pub whole : data_of chunks ≡ bytes
  pub cut : AreCut size chunks bytes
  pub plain : AllByRecursion IsPlain (chunks ++ last ∷ [])
  pub long : length text ≡ written_length (length bytes) size

-- the chunks of these bytes were added, and the chain stands behind them
-- (only clauses of private functions cite this)
pub record Adds (seed : Link) (bytes : List ℕ) (size : ℕ) (old new : List ℕ) (link : Link) : Type 0 where
  pub chunks : List Chunk
  pub written : new ≡ old ++ chunks_text chunks
  pub goes : link ≡ link_after seed chunks
  pub each : HoldData chunks
  pub signed : AreSigned seed chunks
  pub whole : data_of chunks ≡ bytes
  pub cut : AreCut size chunks bytes
  pub plain : AllByRecursion IsPlain chunks
