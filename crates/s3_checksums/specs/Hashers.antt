-- What a hasher has taken in.
use Rattle.std.specs.Prelude.{◌≡◌, ℕ, List}
use Rattle.s3_checksums.specs.Crc.{Parameters, after_bytes, crc_32, crc_32c, crc_64_nvme}
use Rattle.s3_checksums.specs.declared.hashers.Crc32.{Crc32}
use Rattle.s3_checksums.specs.declared.hashers.Crc32c.{Crc32c}
use Rattle.s3_checksums.specs.declared.hashers.Crc64Nvme.{Crc64Nvme}

-- the remainder is that of the message
abbrev pub IsRemainderOf : Parameters → ℕ → List ℕ → Type 0
IsRemainderOf parameters remainder message = remainder ≡ after_bytes parameters.generator parameters.initial message

-- the hasher has taken in this message, whole and nothing else
unfoldable pub HoldsCrc32 : Crc32 → List ℕ → Type 0
HoldsCrc32 hasher message = IsRemainderOf crc_32 hasher.remainder message

-- likewise
unfoldable pub HoldsCrc32c : Crc32c → List ℕ → Type 0
HoldsCrc32c hasher message = IsRemainderOf crc_32c hasher.remainder message

-- likewise
unfoldable pub HoldsCrc64Nvme : Crc64Nvme → List ℕ → Type 0
HoldsCrc64Nvme hasher message = IsRemainderOf crc_64_nvme hasher.remainder message
