-- What is known of every checksum, as laws: they speak of the definitions, and of no code.
use Rattle.std.specs.Prelude.{◌≡◌, ◌↔◌, ℕ, true, List, length, Some}
use Rattle.base64.specs.Engines.{standard}
use Rattle.base64.specs.GeneralPurpose.{IsBytes, encode_of}
use Rattle.s3_integrity.specs.declared.algorithm.ChecksumAlgorithm.{ChecksumAlgorithm}
use Rattle.s3_integrity.specs.declared.checksum.Checksum.{Checksum}
use Rattle.s3_integrity.specs.Sum.{algorithm_of, bytes_of, checksum_of, has_sum, is_sum, size_of, sum_of, with_bytes}

-- a checksum is found in the base64 of its bytes, as many as its kind has, and in no other text
abbrev pub ChecksumsAreEncoded : Type 0
ChecksumsAreEncoded =
    (algorithm : ChecksumAlgorithm) (text : List ℕ) (sum : Checksum) → IsBytes text → IsBytes (bytes_of sum)
    → (checksum_of algorithm text ≡ Some sum)
    ↔ ((algorithm_of sum ≡ algorithm) × (length (bytes_of sum) ≡ size_of algorithm)
    × (text ≡ encode_of standard (bytes_of sum)))

-- a message has the checksum that a text says exactly if the text is the base64 of the message's checksum
abbrev pub ChecksumsAreMet : Type 0
ChecksumsAreMet =
    (algorithm : ChecksumAlgorithm) (text message : List ℕ) (sum : Checksum) → IsBytes text
    → checksum_of algorithm text ≡ Some sum → has_sum sum message ≡ is_sum algorithm text message

-- and such a text says that checksum
abbrev pub SumsAreRead : Type 0
SumsAreRead =
    (algorithm : ChecksumAlgorithm) (text message : List ℕ) → is_sum algorithm text message ≡ true
    → checksum_of algorithm text ≡ Some (with_bytes algorithm (sum_of algorithm message))
