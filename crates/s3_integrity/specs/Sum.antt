-- What the checksum of a message is, and which texts say one (Amazon S3 User Guide, "Checking object integrity").
use Rattle.std.specs.Prelude.{ℕ, ◌==◌, Bool, if◌then◌else◌, is_some, List, length, Option, Some, None, option_and_then, option_map}
use Rattle.std.specs.Int.{w32, w64, to_be_bytes}
use Rattle.std.specs.Str.{bytes_eq}
use Rattle.base64.specs.Engines.{standard}
use Rattle.base64.specs.GeneralPurpose.{decoded_of, encode_of}
use Rattle.sha1.specs.Sha1.{sha1}
use Rattle.sha2.specs.Sha256.{sha256}
use Rattle.s3_checksums.specs.Crc.{crc, crc_32, crc_32c, crc_64_nvme}
use Rattle.s3_integrity.specs.declared.algorithm.ChecksumAlgorithm.{ChecksumAlgorithm}
use Rattle.s3_integrity.specs.declared.algorithm.ChecksumAlgorithm.TheVariants.{Crc32, Crc32c, Crc64Nvme, Sha1, Sha256}
use Rattle.s3_integrity.specs.declared.checksum.Checksum.{Checksum}
use Rattle.s3_integrity.specs.declared.checksum.Checksum.TheVariants as sent

-- how many bytes the checksum has
abbrev pub size_of : ChecksumAlgorithm → ℕ
size_of Crc32 = 4
size_of Crc32c = 4
size_of Crc64Nvme = 8
size_of Sha1 = 20
size_of Sha256 = 32

-- the bytes of the checksum of a message, of a CRC the highest first
unfoldable pub sum_of : ChecksumAlgorithm → List ℕ → List ℕ
sum_of Crc32 message = to_be_bytes w32 (crc crc_32 message)
sum_of Crc32c message = to_be_bytes w32 (crc crc_32c message)
sum_of Crc64Nvme message = to_be_bytes w64 (crc crc_64_nvme message)
sum_of Sha1 message = sha1 message
sum_of Sha256 message = sha256 message

-- the text is the base64 (RFC 4648, section 4) of the message's checksum
unfoldable pub is_sum : ChecksumAlgorithm → List ℕ → List ℕ → Bool
is_sum algorithm text message = bytes_eq (encode_of standard (sum_of algorithm message)) text

-- the bytes, if they are so many
abbrev pub as_many : ℕ → List ℕ → Option (List ℕ)
as_many size bytes = if length bytes == size then Some bytes else None

-- the bytes whose base64 a text is, if they are so many
unfoldable pub decoded_as : ℕ → List ℕ → Option (List ℕ)
decoded_as size text = option_and_then (as_many size) (decoded_of standard text)

-- the text may be one of the kind's: it is the base64 of as many bytes as the kind has
abbrev pub is_spelled : ChecksumAlgorithm → List ℕ → Bool
is_spelled algorithm text = is_some (decoded_as (size_of algorithm) text)

-- the checksum of a kind with these bytes
abbrev pub with_bytes : ChecksumAlgorithm → List ℕ → Checksum
with_bytes Crc32 bytes = sent.Crc32 bytes
with_bytes Crc32c bytes = sent.Crc32c bytes
with_bytes Crc64Nvme bytes = sent.Crc64Nvme bytes
with_bytes Sha1 bytes = sent.Sha1 bytes
with_bytes Sha256 bytes = sent.Sha256 bytes

-- the kind of a checksum
abbrev pub algorithm_of : Checksum → ChecksumAlgorithm
algorithm_of (sent.Crc32 bytes) = Crc32
algorithm_of (sent.Crc32c bytes) = Crc32c
algorithm_of (sent.Crc64Nvme bytes) = Crc64Nvme
algorithm_of (sent.Sha1 bytes) = Sha1
algorithm_of (sent.Sha256 bytes) = Sha256

-- the bytes of a checksum
abbrev pub bytes_of : Checksum → List ℕ
bytes_of (sent.Crc32 bytes) = bytes
bytes_of (sent.Crc32c bytes) = bytes
bytes_of (sent.Crc64Nvme bytes) = bytes
bytes_of (sent.Sha1 bytes) = bytes
bytes_of (sent.Sha256 bytes) = bytes

-- the checksum that the value of the kind's header says
unfoldable pub checksum_of : ChecksumAlgorithm → List ℕ → Option Checksum
checksum_of algorithm text = option_map (with_bytes algorithm) (decoded_as (size_of algorithm) text)

-- the message has this checksum
unfoldable pub has_sum : Checksum → List ℕ → Bool
has_sum sum message = bytes_eq (sum_of (algorithm_of sum) message) (bytes_of sum)
