-- The words that stand for a body, as `x-amz-content-sha256` writes them (Amazon S3 API Reference,
-- "Authenticating requests: signature calculations").
use Rattle.std.specs.Prelude.{ℕ, List, codes}
use Rattle.s3_signing.specs.declared.word.Word.{Word}
use Rattle.s3_signing.specs.declared.word.Word.TheVariants.{Hash, Unsigned, Chunks, UnsignedChunks, TrailedChunks}

-- the word of a body that is not signed
abbrev pub unsigned_payload : List ℕ
unsigned_payload = codes "UNSIGNED-PAYLOAD"

-- the word of a body that is chunks, each with its own signature
abbrev pub signed_chunks : List ℕ
signed_chunks = codes "STREAMING-AWS4-HMAC-SHA256-PAYLOAD"

-- the word of a body that is chunks without signatures, with a checksum behind them
abbrev pub unsigned_chunks : List ℕ
unsigned_chunks = codes "STREAMING-UNSIGNED-PAYLOAD-TRAILER"

-- the word of a body that is chunks, each with its own signature, with a checksum and its signature behind them
abbrev pub trailed_chunks : List ℕ
trailed_chunks = codes "STREAMING-AWS4-HMAC-SHA256-PAYLOAD-TRAILER"

-- the text of a word: the digits of the body's hash, or one of those that are no hash
abbrev pub word_text : Word → List ℕ
word_text (Hash digits) = digits
word_text Unsigned = unsigned_payload
word_text Chunks = signed_chunks
word_text UnsignedChunks = unsigned_chunks
word_text TrailedChunks = trailed_chunks
