-- What a head says of its body: how it is sent, and what has to be found of it (AWS Signature Version 4,
-- "Signature calculations for the Authorization header: transferring payload in multiple chunks"; Amazon S3
-- API Reference, "PutObject", Content-MD5; RFC 1864).
use Rattle.std.specs.Prelude.{ℕ, Bool, true, false, ◌==◌, nat_lt, if◌then◌else◌, List, [], ◌∷◌, length, codes, Option, Some, None, option_and_then, option_map, ok_or, Result, Ok, Err}
use Rattle.std.specs.List.{list_any}
use Rattle.std.specs.Str.{bytes_eq}
use Rattle.base64.specs.Engines.{standard}
use Rattle.base64.specs.GeneralPurpose.{decoded_of}
use Rattle.s3_terms.specs.Fault.{refuse, ◌>>◌, ◌>>=◌}
use Rattle.s3_terms.specs.declared.code.Code.{Code}
use Rattle.s3_terms.specs.declared.code.Code.TheVariants.{InvalidRequest, EntityTooLarge, InvalidDigest, NotImplemented}
use Rattle.s3_terms.specs.declared.dialect.Dialect.{Dialect}
use Rattle.s3_terms.specs.declared.dialect.Dialect.TheVariants.{Json, S3}
use Rattle.s3_config.specs.Settings.{Settings}
use Rattle.s3_http_heads.specs.Head.{HeadParts, is_sent, only, values_of}
use Rattle.s3_http_heads.specs.BodyLength.{decoded_length}
use Rattle.s3_http_heads.specs.Method.{is_put, method_of}
use Rattle.s3_signing.specs.Verdict.{Proved}
use Rattle.s3_signing.specs.Word.{signed_chunks, trailed_chunks, unsigned_chunks, unsigned_payload}
use Rattle.s3_integrity.specs.Algorithm.{algorithms, header_of, named}
use Rattle.s3_integrity.specs.Sum.{checksum_of}
use Rattle.s3_integrity.specs.declared.algorithm.ChecksumAlgorithm.{ChecksumAlgorithm}
use Rattle.s3_integrity.specs.declared.checksum.Checksum.{Checksum}
use Rattle.s3_payloads.specs.declared.form.Digests.{Digests}
use Rattle.s3_payloads.specs.declared.form.Form.{Form}
use Rattle.s3_payloads.specs.declared.form.Form.TheVariants.{Whole, Chunks, TrailedChunks}

-- the bytes, if they are as many as an MD5 has
abbrev pub as_digest : List ℕ → Option (List ℕ)
as_digest bytes = if length bytes == 16 then Some bytes else None

-- the 16 bytes whose base64 a text is (RFC 4648, section 4)
unfoldable pub digest_of : List ℕ → Option (List ℕ)
digest_of text = option_and_then as_digest (decoded_of standard text)

-- the digest that the lines of Content-MD5 say: none where there is no line, and one line at most
abbrev pub digest_said : List (List ℕ) → Result (Option (List ℕ)) Code
digest_said [] = Ok None
digest_said (value ∷ []) = ok_or (option_map Some (digest_of value)) InvalidDigest
digest_said (value ∷ other ∷ others) = Err InvalidDigest

-- the same of a head
unfoldable pub content_digest : HeadParts → Result (Option (List ℕ)) Code
content_digest head = digest_said (values_of (codes "content-md5") head)

-- the checksum that the lines of one kind say (Amazon S3 User Guide, "Checking object integrity"): none where there is no line, and
-- one line at most
abbrev pub checksum_in : ChecksumAlgorithm → List (List ℕ) → Result (Option Checksum) Code
checksum_in algorithm [] = Ok None
checksum_in algorithm (value ∷ []) = ok_or (option_map Some (checksum_of algorithm value)) InvalidRequest
checksum_in algorithm (value ∷ other ∷ others) = Err InvalidRequest

-- one of two that may be said: both are one too many
abbrev pub one_said : Option Checksum → Option Checksum → Result (Option Checksum) Code
one_said None other = Ok other
one_said (Some sum) None = Ok (Some sum)
one_said (Some sum) (Some other) = Err InvalidRequest

-- the checksum that the lines of these kinds say
abbrev pub checksum_among : HeadParts → List ChecksumAlgorithm → Result (Option Checksum) Code
checksum_among head [] = Ok None
checksum_among head (algorithm ∷ others) = do
  said ← checksum_in algorithm (values_of (header_of algorithm) head)
  other ← checksum_among head others
  one_said said other

-- the checksum that is said of the body: in S3's dialect a PUT says it by lines of any kind
unfoldable pub content_checksum : Dialect → HeadParts → Result (Option Checksum) Code
content_checksum Json head = Ok None
content_checksum S3 head = if is_put (method_of head.method) then checksum_among head algorithms else Ok None

-- what is said so of the body's bytes
unfoldable pub digests_said : Dialect → HeadParts → Result Digests Code
digests_said dialect head = do
  md5 ← content_digest head
  checksum ← content_checksum dialect head
  Ok (record { md5 = md5; checksum = checksum })

-- in S3's dialect a head says a checksum by a line
abbrev pub says_checksum : Dialect → HeadParts → Bool
says_checksum Json head = false
says_checksum S3 head = list_any (λ algorithm. is_sent (header_of algorithm) head) algorithms

-- the hash that the word is, where it is one
abbrev pub hash_in : List ℕ → Option (List ℕ)
hash_in word = if bytes_eq word unsigned_payload then None else Some word

-- a body of chunks, past what is wrong with its decoded length
unfoldable pub chunks_form : Settings → HeadParts → Result Form Code
chunks_form settings head = do
  decoded ← ok_or (decoded_length head) InvalidRequest
  refuse (nat_lt settings.body_limit decoded) EntityTooLarge
  refuse (says_checksum settings.dialect head) NotImplemented
  Ok (Chunks decoded)

-- the kind of checksum that stands behind the chunks, by the one line that names it (Amazon S3 API Reference, "PutObject",
-- x-amz-trailer)
unfoldable pub trailer_announced : HeadParts → Result ChecksumAlgorithm Code
trailer_announced head = ok_or (option_and_then named (only (values_of (codes "x-amz-trailer") head))) InvalidRequest

-- a body of chunks with a trailer behind them, which are signed or not, past what is wrong with its decoded length and its
-- trailer; no line says a checksum beside the trailer
unfoldable pub trailed_chunks_form : Settings → HeadParts → Bool → Result Form Code
trailed_chunks_form settings head signed = do
  decoded ← ok_or (decoded_length head) InvalidRequest
  refuse (nat_lt settings.body_limit decoded) EntityTooLarge
  algorithm ← trailer_announced head
  refuse (says_checksum settings.dialect head) InvalidRequest
  Ok (TrailedChunks decoded algorithm signed)

-- a body that is sent as it is, past what is wrong with its Content-MD5 and its checksum
unfoldable pub whole_form : Settings → HeadParts → List ℕ → Result Form Code
whole_form settings head word = do
  digests ← digests_said settings.dialect head
  Ok (Whole (hash_in word) digests)

-- how the body is sent behind this head, whose payload word this is, or what is wrong with what the head
-- says of it; the word of chunks leaves Content-MD5 unread, and any other word the decoded length
unfoldable pub form_of : Settings → HeadParts → List ℕ → Result Form Code
form_of settings head word =
    if bytes_eq word signed_chunks then chunks_form settings head
    else if bytes_eq word unsigned_chunks then trailed_chunks_form settings head false
    else if bytes_eq word trailed_chunks then trailed_chunks_form settings head true
    else whole_form settings head word

-- what was announced of a body: how many bytes it has as it is sent, how it is sent, and what its head has proved
pub record Announced : Type 0 where
  pub length : ℕ
  pub form : Form
  pub proved : Proved

-- the body is sent as it is, and not in chunks
abbrev pub IsSentAsItIs : Form → Type 0
IsSentAsItIs (Whole hash digests) = Unit {0}
IsSentAsItIs (Chunks decoded) = ⊥
IsSentAsItIs (TrailedChunks decoded algorithm signed) = ⊥
