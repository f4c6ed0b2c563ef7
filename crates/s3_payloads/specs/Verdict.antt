-- What is known of a body by the bytes that have come behind its head (Amazon S3 API Reference, "Error
-- responses": IncompleteBody, XAmzContentSHA256Mismatch, BadDigest).
use Rattle.std.specs.Prelude.{◌≡◌, ℕ, Bool, true, false, not, ◌&&◌, nat_le, if◌then◌else◌, List, take, length, Option, Some, None, ok_or, Result, Ok, Err}
use Rattle.std.specs.Str.{bytes_eq}
use Rattle.hex.specs.Hex.{encode_lower}
use Rattle.md5.specs.Md5.{md5}
use Rattle.sha2.specs.Sha256.{sha256}
use Rattle.s3_aws_chunked.specs.Verdict.{Verdict, Accepted, Open, Refused, Terms}
use Rattle.s3_aws_chunked.specs.Verdict as chunked
use Rattle.s3_integrity.specs.Algorithm.{header_of}
use Rattle.s3_integrity.specs.Sum.{checksum_of, has_sum}
use Rattle.s3_integrity.specs.declared.algorithm.ChecksumAlgorithm.{ChecksumAlgorithm}
use Rattle.s3_integrity.specs.declared.checksum.Checksum.{Checksum}
use Rattle.s3_unsigned_chunks.specs.Reading as trailers
use Rattle.s3_unsigned_chunks.specs.Verdict as unsigned
use Rattle.s3_payloads.specs.declared.form.Digests.{Digests}
use Rattle.s3_payloads.specs.declared.form.Form.{Form}
use Rattle.s3_payloads.specs.declared.form.Form.TheVariants.{Whole, Chunks, TrailedChunks}
use Rattle.s3_payloads.specs.Form.{Announced}
use Rattle.s3_aws_chunked.specs.Trailed.{TrailedTerms}
use Rattle.s3_aws_chunked.specs.Trailed as trailed
use Rattle.s3_signing.specs.Chain.{Link, seed_of}
use Rattle.s3_terms.specs.Fault.{refuse, ◌>>◌, ◌>>=◌}
use Rattle.s3_terms.specs.declared.code.Code.{Code}
use Rattle.s3_terms.specs.declared.code.Code.TheVariants.{IncompleteBody, XAmzContentSHA256Mismatch, InvalidRequest, BadDigest}

-- the bytes have this SHA-256, in lower-case hexadecimal digits, where one is told
abbrev pub has_hash : Option (List ℕ) → List ℕ → Bool
has_hash None bytes = true
has_hash (Some digits) bytes = bytes_eq (encode_lower (sha256 bytes)) digits

-- the bytes have this MD5, where one is told
abbrev pub has_md5 : Option (List ℕ) → List ℕ → Bool
has_md5 None bytes = true
has_md5 (Some digest) bytes = bytes_eq (md5 bytes) digest

-- they have this checksum, where one is told
abbrev pub has_checksum : Option Checksum → List ℕ → Bool
has_checksum None bytes = true
has_checksum (Some sum) bytes = has_sum sum bytes

-- they have all that is told so
abbrev pub has_digests : Digests → List ℕ → Bool
has_digests digests bytes = has_md5 digests.md5 bytes && has_checksum digests.checksum bytes

-- the data of a whole body, past what is wrong with it
unfoldable pub checked_data : Option (List ℕ) → Digests → List ℕ → Result (List ℕ) Code
checked_data hash digests bytes = do
  refuse (not (has_hash hash bytes)) XAmzContentSHA256Mismatch
  refuse (not (has_digests digests bytes)) BadDigest
  Ok bytes

-- what is decided at a place
abbrev pub decided_at : ℕ → Result (List ℕ) Code → Verdict
decided_at place (Ok bytes) = Accepted bytes
decided_at place (Err code) = Refused place code

-- the verdict on a body that is sent as it is, of so many bytes, by the bytes behind its head: it is judged
-- at its last byte, where it has none at the head's end, and no byte behind it is; the end of input before
-- that leaves it incomplete
unfoldable pub whole_verdict : Option (List ℕ) → Digests → ℕ → Bool → List ℕ → Verdict
whole_verdict hash digests size ended bytes =
    if nat_le size (length bytes) then decided_at size (checked_data hash digests (take size bytes))
    else if ended then Refused (length bytes) IncompleteBody
    else Open bytes

-- what the chunks of a body have to come to
abbrev pub terms_of : Announced → ℕ → Terms
terms_of announced decoded = record { seed = seed_of announced.proved; encoded = announced.length; decoded = decoded }

-- the data of a body whose chunks are whole and whose trailer has this value, past what is wrong with its checksum
-- (Amazon S3 User Guide, "Checking object integrity")
unfoldable pub trailed_data : ChecksumAlgorithm → List ℕ → List ℕ → Result (List ℕ) Code
trailed_data algorithm value bytes = do
  sum ← ok_or (checksum_of algorithm value) InvalidRequest
  refuse (not (has_sum sum bytes)) BadDigest
  Ok bytes

-- the verdict on a body of so many bytes with a checksum behind its chunks, by that on the chunks: the checksum is judged
-- at the last byte
abbrev pub trailed_verdict : ChecksumAlgorithm → ℕ → unsigned.Verdict → Verdict
trailed_verdict algorithm size (unsigned.Refused place code) = Refused place code
trailed_verdict algorithm size (unsigned.Accepted bytes value) = decided_at size (trailed_data algorithm value bytes)
trailed_verdict algorithm size (unsigned.Open bytes) = Open bytes

-- what the chunks of such a body have to come to: a trailer of the name of the checksum's header, both lengths, and, where they
-- are signed, what the chain of their signatures begins with
pub record TrailerTerms : Type 0 where
  pub name : List ℕ
  pub encoded : ℕ
  pub decoded : ℕ
  pub seed : Option Link

-- the same for chunks without signatures, and for signed ones
abbrev pub unsigned_terms : TrailerTerms → trailers.Terms
unsigned_terms terms = record { name = terms.name; encoded = terms.encoded; decoded = terms.decoded }

abbrev pub signed_terms : TrailerTerms → Link → TrailedTerms
signed_terms terms seed = record { name = terms.name; chunks = record { seed = seed; encoded = terms.encoded; decoded = terms.decoded } }

-- the verdict on the chunks
abbrev pub chunks_verdict_by : Option Link → TrailerTerms → List ℕ → Bool → unsigned.Verdict
chunks_verdict_by None terms bytes ended = unsigned.verdict_of (unsigned_terms terms) bytes ended
chunks_verdict_by (Some seed) terms bytes ended = trailed.verdict_of (signed_terms terms seed) bytes ended

abbrev pub chunks_verdict : TrailerTerms → List ℕ → Bool → unsigned.Verdict
chunks_verdict terms bytes ended = chunks_verdict_by terms.seed terms bytes ended

-- what was announced of them
abbrev pub seed_if : Bool → Link → Option Link
seed_if true seed = Some seed
seed_if false seed = None

abbrev pub trailed_terms : Announced → ℕ → ChecksumAlgorithm → Bool → TrailerTerms
trailed_terms announced decoded algorithm signed = record {
  name = header_of algorithm;
  encoded = announced.length;
  decoded = decoded;
  seed = seed_if signed (seed_of announced.proved);
}

abbrev pub JudgesForm : Form → Announced → List ℕ → Bool → Verdict → Type 0
JudgesForm (Whole hash digests) announced bytes ended verdict =
    verdict ≡ whole_verdict hash digests announced.length ended bytes
JudgesForm (Chunks decoded) announced bytes ended verdict =
    chunked.Judges (terms_of announced decoded) bytes ended verdict
JudgesForm (TrailedChunks decoded algorithm signed) announced bytes ended verdict =
    verdict
    ≡ trailed_verdict algorithm announced.length (chunks_verdict (trailed_terms announced decoded algorithm signed) bytes ended)

-- the verdict on a body that was announced so, by the bytes behind its head; ended says that no more come
abbrev pub Judges : Announced → List ℕ → Bool → Verdict → Type 0
Judges announced bytes ended verdict = JudgesForm announced.form announced bytes ended verdict
