-- A signed request whose body is sent in signed chunks (Amazon S3 API Reference, "Signature calculations for the
-- authorization header: transferring payload in multiple chunks").
use Rattle.std.specs.Prelude.{◌≡◌, ℕ, ◌≤◌, Bool, true, List, [], ◌∷◌, length, codes, Some, Ok}
use Rattle.std.specs.Fmt.{decimal}
use Rattle.s3_config.specs.Settings.{Settings}
use Rattle.s3_http_heads.specs.BodyLength.{decoded_length}
use Rattle.s3_http_heads.specs.Head.{HeadParts}
use Rattle.s3_http_heads.specs.Message.{IsMessage}
use Rattle.s3_signing.specs.Chain.{Link, seed_of}
use Rattle.s3_signing.specs.Verdict.{Proved, head_verdict}
use Rattle.s3_signing.specs.Word.{signed_chunks}
use Rattle.s3_aws_chunked.specs.Verdict.{Accepted, Judges}
use Rattle.s3_aws_chunked.specs.Write.{Writes, written_length}
use Rattle.s3_signer.specs.Request.{CanBeSent, HeaderLine, Told, proved_of, text_with}
use Rattle.s3_signer.specs.Verified.{AtEachServer}

-- the most bytes of data that a chunk has
abbrev pub greatest_chunk : ℕ
greatest_chunk = 67_108_864

-- from 1 to so many
abbrev pub IsChunkSize : ℕ → Type 0
IsChunkSize size = (1 ≤ size) × (size ≤ greatest_chunk)

-- a body of these bytes, which is sent in signed chunks of so many: the word of chunks, the size of all that is
-- sent, which is always told, how the content is coded, and how many bytes there are without what frames them
abbrev pub chunked : List ℕ → ℕ → Told
chunked bytes size = record {
  word = signed_chunks;
  size = written_length (length bytes) size;
  sized = true;
  more =
      (codes "content-encoding", codes "aws-chunked")
      ∷ (codes "x-amz-decoded-content-length", decimal (length bytes))
      ∷ [];
}

-- where its chain begins: at the signature of its head
abbrev pub first_link : List ℕ → List ℕ → List ℕ → List ℕ → List HeaderLine → List ℕ → ℕ → List ℕ → Link
first_link secret region method target headers bytes size stamp =
    seed_of (proved_of secret region method target headers (chunked bytes size) stamp)

-- the text is the signed request whose body is these bytes in signed chunks
pub record IsChunkedText (id secret region method target : List ℕ) (headers : List HeaderLine) (bytes : List ℕ) (size : ℕ) (stamp text : List ℕ) : Type 0 where
  pub body : List ℕ
  pub written : Writes (first_link secret region method target headers bytes size stamp) bytes size body
  pub joined : text ≡ text_with id secret region method target headers (chunked bytes size) stamp body

-- the request can be signed whose body is sent so: the chain can be begun, for which the secret has at most 128
-- bytes and the region's name at most 64, as those of every server have, and it can be sent with those chunks
pub record IsSignableInChunks (id secret region method target : List ℕ) (headers : List HeaderLine) (bytes : List ℕ) (size : ℕ) (stamp : List ℕ) : Type 0 where
  pub key : length secret ≤ 128
  pub place : length region ≤ 64
  pub body : List ℕ
  pub written : Writes (first_link secret region method target headers bytes size stamp) bytes size body
  pub sent : CanBeSent id secret region method target headers (chunked bytes size) stamp body

-- the bytes are one message, and its head is verified at the moment: it proves this, with the word of chunks; it
-- says how long the data is, and its body is chunks that are accepted with just that data, by what the head has
-- proved and says of them, whether or not the input has ended
pub record IsVerifiedInChunks (settings : Settings) (moment : ℕ) (proved : Proved) (held bytes : List ℕ) : Type 0 where
  pub head : HeadParts
  pub body : List ℕ
  pub message : IsMessage bytes head body []
  pub verdict : head_verdict settings head moment ≡ Ok proved
  pub word : proved.word ≡ signed_chunks
  pub decoded : decoded_length head ≡ Some (length held)
  pub accepted : (ended : Bool) → Judges (record { seed = seed_of proved; encoded = length body; decoded = length held }) body ended (Accepted held)

-- the bytes are so verified
abbrev pub IsVerifiedChunkedRequest : List ℕ → List ℕ → List ℕ → List ℕ → List ℕ → List HeaderLine → List ℕ → ℕ → List ℕ → List ℕ → Type 0
IsVerifiedChunkedRequest id secret region method target headers bytes size stamp text =
    AtEachServer id secret region target stamp (λ settings moment.
    IsVerifiedInChunks settings moment (proved_of secret region method target headers (chunked bytes size) stamp) bytes text)
