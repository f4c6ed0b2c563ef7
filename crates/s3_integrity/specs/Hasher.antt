-- What a hasher has taken in.
use Rattle.std.specs.Prelude.{◌≡◌, ℕ, List}
use Rattle.sha1.specs.Sha1 as S1
use Rattle.sha2.specs.Hashers.{Holds256}
use Rattle.s3_checksums.specs.Hashers.{HoldsCrc32, HoldsCrc32c, HoldsCrc64Nvme}
use Rattle.s3_integrity.specs.declared.algorithm.ChecksumAlgorithm.{ChecksumAlgorithm}
use Rattle.s3_integrity.specs.declared.algorithm.ChecksumAlgorithm.TheVariants as kind
use Rattle.s3_integrity.specs.declared.hasher.ChecksumHasher.{ChecksumHasher}
use Rattle.s3_integrity.specs.declared.running.Running.{Running}
use Rattle.s3_integrity.specs.declared.running.Running.TheVariants.{Crc32, Crc32c, Crc64Nvme, Sha1, Sha256}

-- the kind of checksum that a hasher is of
abbrev pub kind_of : Running → ChecksumAlgorithm
kind_of (Crc32 hasher) = kind.Crc32
kind_of (Crc32c hasher) = kind.Crc32c
kind_of (Crc64Nvme hasher) = kind.Crc64Nvme
kind_of (Sha1 hasher) = kind.Sha1
kind_of (Sha256 hasher) = kind.Sha256

-- a hasher has taken in this message, whole and nothing else
unfoldable pub HasTaken : Running → List ℕ → Type 0
HasTaken (Crc32 hasher) message = HoldsCrc32 hasher message
HasTaken (Crc32c hasher) message = HoldsCrc32c hasher message
HasTaken (Crc64Nvme hasher) message = HoldsCrc64Nvme hasher message
HasTaken (Sha1 hasher) message = S1.Holds hasher message
HasTaken (Sha256 hasher) message = Holds256 hasher message

-- a hasher of this kind has taken in this message
unfoldable pub Holds : ChecksumHasher → ChecksumAlgorithm → List ℕ → Type 0
Holds hasher algorithm message = (kind_of hasher.running ≡ algorithm) × HasTaken hasher.running message
