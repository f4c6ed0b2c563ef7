-- A body in the chunked transfer coding, as a text (RFC 9112, 7.1, without trailer fields):
--   chunked-body = *chunk last-chunk CRLF
--   chunk        = chunk-size [ chunk-ext ] CRLF chunk-data CRLF
--   last-chunk   = 1*("0") [ chunk-ext ] CRLF
use Rattle.std.specs.Prelude.{◌≡◌, ℕ, ◌+◌, ◌-◌, ◌<◌, ◌≤◌, ◌⊎◌, Bool, true, false, ◌&&◌, ◌||◌, ◌==◌, nat_le, List, [], ◌∷◌, ◌++◌, length, take}
use Rattle.std.specs.List.{AllByRecursion, flat_map, list_all}
use Rattle.std.specs.Str.Parse.{digits_value}
use Rattle.s3_terms.specs.declared.code.Code.{Code}
use Rattle.s3_terms.specs.declared.code.Code.TheVariants.{InvalidRequest, EntityTooLarge}
use Rattle.s3_text.specs.Characters.{carriage_return, crlf, semicolon}
use Rattle.s3_transfer_chunks.specs.Place.{is_blank, is_hex, is_passed}
use Rattle.s3_transfer_chunks.specs.Reading.{taken_in}
use Rattle.s3_transfer_chunks.specs.Verdict.{Refused, Accepted, Open, verdict_of}

-- 1 to 16 hexadecimal digits of either case; zeros may stand in front
abbrev pub is_size : List ℕ → Bool
is_size text = nat_le 1 (length text) && nat_le (length text) 16 && list_all is_hex text

-- the number that they spell
abbrev pub size_of : List ℕ → ℕ
size_of text = digits_value 16 text

-- a chunk extension, which is passed over: spaces and tabs, a semicolon, and behind it any bytes but control characters other
-- than the tab
pub record IsGivenExtension (text : List ℕ) : Type 0 where
  pub blanks : List ℕ
  pub rest : List ℕ
  pub blank : list_all is_blank blanks ≡ true
  pub passed : list_all is_passed rest ≡ true
  pub written : text ≡ blanks ++ semicolon ∷ rest

-- it may be left out
abbrev pub IsExtension : List ℕ → Type 0
IsExtension text = (text ≡ []) ⊎ IsGivenExtension text

-- the line of a size
abbrev pub line_text : List ℕ → List ℕ → List ℕ
line_text size extension = size ++ (extension ++ crlf)

-- a chunk: its size as it was spelled, its extension, and its data
pub record Chunk : Type 0 where
  pub size : List ℕ
  pub extension : List ℕ
  pub bytes : List ℕ

-- it has some data, as much as its size says
pub record IsChunk (chunk : Chunk) : Type 0 where
  pub form : is_size chunk.size ≡ true
  pub extended : IsExtension chunk.extension
  pub long : size_of chunk.size ≡ length chunk.bytes
  pub some : 0 < length chunk.bytes

-- a chunk as it is sent: the line of its size, its data, and the end of a line
abbrev pub chunk_text : Chunk → List ℕ
chunk_text chunk = line_text chunk.size chunk.extension ++ (chunk.bytes ++ crlf)

-- the chunks, one after the other
abbrev pub chunks_text : List Chunk → List ℕ
chunks_text chunks = flat_map chunk_text chunks

-- their data, one after the other
abbrev pub data_of : List Chunk → List ℕ
data_of chunks = flat_map (λ (chunk : Chunk). chunk.bytes) chunks

abbrev pub AreChunks : List Chunk → Type 0
AreChunks chunks = AllByRecursion IsChunk chunks

-- the last size is zero
pub record IsLast (size extension : List ℕ) : Type 0 where
  pub form : is_size size ≡ true
  pub extended : IsExtension extension
  pub zero : size_of size ≡ 0

-- what stands behind the chunks: the line of the last size, and the end of a line
abbrev pub end_text : List ℕ → List ℕ → List ℕ
end_text last extension = line_text last extension ++ crlf

-- the text is a body in this coding, with this data
pub record IsTransferBody (text held : List ℕ) : Type 0 where
  pub chunks : List Chunk
  pub last : List ℕ
  pub extension : List ℕ
  pub each : AreChunks chunks
  pub ends : IsLast last extension
  pub written : text ≡ chunks_text chunks ++ end_text last extension
  pub joined : held ≡ data_of chunks

-- what ends the digits of a size: the CR behind it, or the first byte of an extension
abbrev pub ends_size : ℕ → Bool
ends_size byte = byte == carriage_return || byte == semicolon || is_blank byte

-- the text is chunks within the limit, the digits of a size that brings their data over it, and the byte behind them
pub record IsTooLarge (limit : ℕ) (text : List ℕ) : Type 0 where
  pub chunks : List Chunk
  pub size : List ℕ
  pub byte : ℕ
  pub each : AreChunks chunks
  pub form : is_size size ≡ true
  pub ends : ends_size byte ≡ true
  pub written : text ≡ chunks_text chunks ++ (size ++ byte ∷ [])
  pub within : length (data_of chunks) ≤ limit
  pub over : limit < length (data_of chunks) + size_of size

-- the front of a chunk has come, and of its data this part
pub record BeginsChunk (front part : List ℕ) : Type 0 where
  pub chunk : Chunk
  pub rest : List ℕ
  pub form : IsChunk chunk
  pub begun : chunk_text chunk ≡ front ++ rest
  pub partial : part ≡ take (length front - length (line_text chunk.size chunk.extension)) chunk.bytes

-- the front of what stands behind the chunks has come
pub record BeginsEnd (front : List ℕ) : Type 0 where
  pub last : List ℕ
  pub extension : List ℕ
  pub rest : List ℕ
  pub ends : IsLast last extension
  pub begun : end_text last extension ≡ front ++ rest

-- the text begins a body. Its data so far is that of the chunks that it begins with, and what has come of the data of the
-- chunk behind them
pub record HoldsSoFar (text held : List ℕ) : Type 0 where
  pub chunks : List Chunk
  pub front : List ℕ
  pub part : List ℕ
  pub each : AreChunks chunks
  pub written : text ≡ chunks_text chunks ++ front
  pub begins : BeginsChunk front part ⊎ ((part ≡ []) × BeginsEnd front)
  pub joined : held ≡ data_of chunks ++ part

-- what is accepted is a body up to its place, with this data, which is within the limit
abbrev pub AcceptedAreBodies : Type 0
AcceptedAreBodies =
    (limit : ℕ) (bytes : List ℕ) (ended : Bool) (place : ℕ) (held : List ℕ) → verdict_of limit bytes ended ≡ Accepted place held
    → (place ≤ length bytes) × IsTransferBody (take place bytes) held × (length held ≤ limit)

-- and each body within the limit is accepted, where it ends and with its data, whatever stands behind it
abbrev pub BodiesAreAccepted : Type 0
BodiesAreAccepted =
    (limit : ℕ) (text rest : List ℕ) (ended : Bool) (held : List ℕ) → IsTransferBody text held → length held ≤ limit
    → verdict_of limit (text ++ rest) ended ≡ Accepted (length text) held

-- what is refused as misspelled begins no body: however the bytes up to the place of the refusal go on, they are none
abbrev pub MisspelledBeginNoBody : Type 0
MisspelledBeginNoBody =
    (limit : ℕ) (bytes : List ℕ) (place : ℕ) → verdict_of limit bytes false ≡ Refused place InvalidRequest
    → (rest held : List ℕ) → ¬ (IsTransferBody (take place bytes ++ rest) held)

-- what is refused as too large is refused for a size, at the byte behind its digits
abbrev pub TooLargeAreSizes : Type 0
TooLargeAreSizes =
    (limit : ℕ) (bytes : List ℕ) (place : ℕ) → verdict_of limit bytes false ≡ Refused place EntityTooLarge
    → IsTooLarge limit (take place bytes)

-- it begins no body within the limit
abbrev pub TooLargeBeginLargeBodies : Type 0
TooLargeBeginLargeBodies =
    (limit : ℕ) (bytes : List ℕ) (place : ℕ) → verdict_of limit bytes false ≡ Refused place EntityTooLarge
    → (rest held : List ℕ) → IsTransferBody (take place bytes ++ rest) held → limit < length held

-- and each larger body is refused so, whatever stands behind it
abbrev pub LargeBodiesAreRefused : Type 0
LargeBodiesAreRefused =
    (limit : ℕ) (text rest : List ℕ) (ended : Bool) (held : List ℕ) → IsTransferBody text held → limit < length held
    → verdict_of limit (text ++ rest) ended ≡ Refused (taken_in limit text) EntityTooLarge

-- before the end of its input nothing is refused for another reason
abbrev pub RefusalsHaveReasons : Type 0
RefusalsHaveReasons =
    (limit : ℕ) (bytes : List ℕ) (place : ℕ) (code : Code) → verdict_of limit bytes false ≡ Refused place code
    → (code ≡ InvalidRequest) ⊎ (code ≡ EntityTooLarge)

-- what is open begins a body, and holds its data so far
abbrev pub OpenHoldSoFar : Type 0
OpenHoldSoFar =
    (limit : ℕ) (bytes held : List ℕ) → verdict_of limit bytes false ≡ Open held → HoldsSoFar bytes held
