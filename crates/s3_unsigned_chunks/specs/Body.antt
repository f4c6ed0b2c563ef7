-- A body in chunks without signatures, as a text (Amazon S3 API Reference, "Authenticating requests",
-- STREAMING-UNSIGNED-PAYLOAD-TRAILER): chunks of data, a size of zero, the line of the trailer, and the end of a line.
use Rattle.std.specs.Prelude.{◌≡◌, ℕ, ◌+◌, ◌-◌, ◌<◌, ◌≤◌, ◌⊎◌, Bool, true, false, ◌&&◌, nat_le, List, [], ◌∷◌, ◌++◌, length, map, take}
use Rattle.std.specs.List.{AllByRecursion, flat_map, list_all}
use Rattle.std.specs.Char.{is_ascii_graphic, to_ascii_lowercase}
use Rattle.std.specs.Str.Parse.{digits_value}
use Rattle.s3_terms.specs.declared.code.Code.{Code}
use Rattle.s3_text.specs.Characters.{colon, crlf, line_feed}
use Rattle.s3_unsigned_chunks.specs.Place.{is_hex}
use Rattle.s3_unsigned_chunks.specs.Reading.{Terms}
use Rattle.s3_unsigned_chunks.specs.Verdict.{Refused, Accepted, Open, verdict_of}

-- 1 to 8 hexadecimal digits of either case; zeros may stand in front
abbrev pub is_size : List ℕ → Bool
is_size text = nat_le 1 (length text) && nat_le (length text) 8 && list_all is_hex text

-- the number that they spell
abbrev pub size_of : List ℕ → ℕ
size_of text = digits_value 16 text

-- a chunk: its size as it was spelled, and its data
pub record Chunk : Type 0 where
  pub size : List ℕ
  pub bytes : List ℕ

-- it has some data, as much as its size says
pub record IsChunk (chunk : Chunk) : Type 0 where
  pub form : is_size chunk.size ≡ true
  pub long : size_of chunk.size ≡ length chunk.bytes
  pub some : 0 < length chunk.bytes

-- a chunk as it is sent: the line of its size, its data, and the end of a line
abbrev pub chunk_text : Chunk → List ℕ
chunk_text chunk = chunk.size ++ (crlf ++ (chunk.bytes ++ crlf))

-- the chunks, one after the other
abbrev pub chunks_text : List Chunk → List ℕ
chunks_text chunks = flat_map chunk_text chunks

-- their data, one after the other
abbrev pub data_of : List Chunk → List ℕ
data_of chunks = flat_map (λ (chunk : Chunk). chunk.bytes) chunks

abbrev pub AreChunks : List Chunk → Type 0
AreChunks chunks = AllByRecursion IsChunk chunks

-- what may stand behind the value of a trailer in its line: nothing, or one line feed
abbrev pub IsGap : List ℕ → Type 0
IsGap gap = (gap ≡ []) ⊎ (gap ≡ line_feed ∷ [])

-- what stands behind the chunks: the line of a last size, the line of the trailer, and the end of a line
abbrev pub end_text : List ℕ → List ℕ → List ℕ → List ℕ → List ℕ
end_text last name value gap = last ++ (crlf ++ (name ++ colon ∷ (value ++ (gap ++ (crlf ++ crlf)))))

-- the last size is zero
pub record IsZero (size : List ℕ) : Type 0 where
  pub form : is_size size ≡ true
  pub zero : size_of size ≡ 0

-- two names are the same but for the case of their letters
abbrev pub AreSameName : List ℕ → List ℕ → Type 0
AreSameName one other = map to_ascii_lowercase one ≡ map to_ascii_lowercase other

-- the value of a trailer: 1 to 64 visible characters of ASCII
abbrev pub is_value : List ℕ → Bool
is_value text = nat_le 1 (length text) && nat_le (length text) 64 && list_all is_ascii_graphic text

-- the text is a body with these terms, with this data and this value of its trailer
pub record IsBody (terms : Terms) (text held value : List ℕ) : Type 0 where
  pub chunks : List Chunk
  pub last : List ℕ
  pub name : List ℕ
  pub gap : List ℕ
  pub each : AreChunks chunks
  pub ends : IsZero last
  pub named : AreSameName name terms.name
  pub valued : is_value value ≡ true
  pub parted : IsGap gap
  pub written : text ≡ chunks_text chunks ++ end_text last name value gap
  pub joined : held ≡ data_of chunks
  pub decoded : length held ≡ terms.decoded
  pub encoded : length text ≡ terms.encoded

-- the front of a chunk has come, and of its data this part
pub record BeginsChunk (front part : List ℕ) : Type 0 where
  pub chunk : Chunk
  pub rest : List ℕ
  pub form : IsChunk chunk
  pub begun : chunk_text chunk ≡ front ++ rest
  pub partial : part ≡ take (length front - (length chunk.size + length crlf)) chunk.bytes

-- the front of what stands behind the chunks has come
pub record BeginsEnd (terms : Terms) (front : List ℕ) : Type 0 where
  pub last : List ℕ
  pub name : List ℕ
  pub value : List ℕ
  pub gap : List ℕ
  pub rest : List ℕ
  pub ends : IsZero last
  pub named : AreSameName name terms.name
  pub valued : is_value value ≡ true
  pub parted : IsGap gap
  pub begun : end_text last name value gap ≡ front ++ rest

-- the data so far: that of the chunks that the text begins with, and what has come of the data of the chunk behind them
pub record HoldsSoFar (terms : Terms) (text held : List ℕ) : Type 0 where
  pub chunks : List Chunk
  pub front : List ℕ
  pub part : List ℕ
  pub each : AreChunks chunks
  pub written : text ≡ chunks_text chunks ++ front
  pub begins : BeginsChunk front part ⊎ ((part ≡ []) × BeginsEnd terms front)
  pub joined : held ≡ data_of chunks ++ part

-- what is accepted is a body: the bytes of Content-Length, with this data and this value
abbrev pub AcceptedAreBodies : Type 0
AcceptedAreBodies =
    (terms : Terms) (bytes : List ℕ) (ended : Bool) (held value : List ℕ) → verdict_of terms bytes ended ≡ Accepted held value
    → (terms.encoded ≤ length bytes) × IsBody terms (take terms.encoded bytes) held value

-- and each body is accepted, with its data and its value, whatever stands behind it
abbrev pub BodiesAreAccepted : Type 0
BodiesAreAccepted =
    (terms : Terms) (bytes : List ℕ) (ended : Bool) (held value : List ℕ) → terms.encoded ≤ length bytes
    → IsBody terms (take terms.encoded bytes) held value → verdict_of terms bytes ended ≡ Accepted held value

-- what is refused before the end of its input begins no body: however the bytes up to the place of the refusal go on, they
-- are none
abbrev pub RefusedBeginNoBody : Type 0
RefusedBeginNoBody =
    (terms : Terms) (bytes : List ℕ) (place : ℕ) (code : Code) → verdict_of terms bytes false ≡ Refused place code
    → (rest held value : List ℕ) → ¬ (IsBody terms (take place bytes ++ rest) held value)

-- and what is open has the form of a front of one, and holds its data so far
abbrev pub OpenHoldSoFar : Type 0
OpenHoldSoFar =
    (terms : Terms) (bytes held : List ℕ) → verdict_of terms bytes false ≡ Open held → HoldsSoFar terms bytes held
