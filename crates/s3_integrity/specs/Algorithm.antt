-- The kinds of checksums, and the headers that carry them (Amazon S3 User Guide, "Checking object integrity").
use Rattle.std.specs.Prelude.{ℕ, List, [], ◌∷◌, Option, codes}
use Rattle.std.specs.List.{find}
use Rattle.std.specs.Str.{str_eq_ignore_ascii_case}
use Rattle.s3_integrity.specs.declared.algorithm.ChecksumAlgorithm.{ChecksumAlgorithm}
use Rattle.s3_integrity.specs.declared.algorithm.ChecksumAlgorithm.TheVariants.{Crc32, Crc32c, Crc64Nvme, Sha1, Sha256}

-- the name of the header that carries checksums of a kind
abbrev pub header_of : ChecksumAlgorithm → List ℕ
header_of Crc32 = codes "x-amz-checksum-crc32"
header_of Crc32c = codes "x-amz-checksum-crc32c"
header_of Crc64Nvme = codes "x-amz-checksum-crc64nvme"
header_of Sha1 = codes "x-amz-checksum-sha1"
header_of Sha256 = codes "x-amz-checksum-sha256"

-- all kinds
abbrev pub algorithms : List ChecksumAlgorithm
algorithms = Crc32 ∷ Crc32c ∷ Crc64Nvme ∷ Sha1 ∷ Sha256 ∷ []

-- the kind whose header has this name: the case of a header name doesn't count (RFC 9110, section 5.1)
unfoldable pub named : List ℕ → Option ChecksumAlgorithm
named name = find (λ algorithm. str_eq_ignore_ascii_case name (header_of algorithm)) algorithms
