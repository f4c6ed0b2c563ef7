-- One chunk of a body that is signed in chunks (Amazon S3 API Reference, "Signature calculations for the
-- authorization header: transferring payload in multiple chunks"): its size in hexadecimal, its signature,
-- and its data.
use Rattle.std.specs.Prelude.{◌≡◌, ℕ, Bool, true, ◌&&◌, nat_le, List, ◌++◌, length, codes}
use Rattle.std.specs.List.{list_all, flat_map}
use Rattle.std.specs.Char.{is_digit}
use Rattle.std.specs.Str.Parse.{digits_value}
use Rattle.s3_text.specs.Characters.{crlf}
use Rattle.s3_text.specs.Digest.{is_hex_digest}

-- a chunk: its size as it was spelled, its signature, and its data
pub record Chunk : Type 0 where
  pub size : List ℕ
  pub signature : List ℕ
  pub bytes : List ℕ

-- a hexadecimal digit of either case
abbrev pub is_hex : ℕ → Bool
is_hex byte = is_digit byte 16

-- 1 to 8 hexadecimal digits; zeros may stand in front
abbrev pub is_size : List ℕ → Bool
is_size text = nat_le 1 (length text) && nat_le (length text) 8 && list_all is_hex text

-- the number that they spell
abbrev pub size_of : List ℕ → ℕ
size_of text = digits_value 16 text

-- the size is that of the data, and the signature has 64 lower-case hexadecimal digits
pub record IsChunk (chunk : Chunk) : Type 0 where
  pub size : is_size chunk.size ≡ true
  pub length : size_of chunk.size ≡ length chunk.bytes
  pub signature : is_hex_digest chunk.signature ≡ true

-- what stands between a size and a signature
abbrev pub label : List ℕ
label = codes ";chunk-signature="

-- what stands behind the size in the first line of a chunk, with the end of the line
unfoldable pub line_behind : List ℕ → List ℕ
line_behind signature = label ++ (signature ++ crlf)

-- the first line of a chunk
abbrev pub first_line : List ℕ → List ℕ → List ℕ
first_line size signature = size ++ line_behind signature

-- a chunk as it is sent: its first line, its data, and the end of a line
abbrev pub chunk_text : Chunk → List ℕ
chunk_text chunk = first_line chunk.size chunk.signature ++ (chunk.bytes ++ crlf)

-- the chunks, one after the other
abbrev pub chunks_text : List Chunk → List ℕ
chunks_text chunks = flat_map chunk_text chunks

-- their data, one after the other
abbrev pub data_of : List Chunk → List ℕ
data_of chunks = flat_map (λ (chunk : Chunk). chunk.bytes) chunks
