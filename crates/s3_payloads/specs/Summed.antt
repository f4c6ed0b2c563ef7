-- The data of a body whose checksum runs along, as it arrives.
-- Only clauses of private functions cite these, and nobody has to believe them.
use Rattle.std.specs.Prelude.{ℕ, List, ◌∷◌, Option, Some, None, Result, Ok, Err}
use Rattle.s3_terms.specs.declared.code.Code.{Code}
use Rattle.s3_integrity.specs.declared.algorithm.ChecksumAlgorithm.{ChecksumAlgorithm}
use Rattle.s3_integrity.specs.declared.algorithm.ChecksumAlgorithm.TheVariants.{Crc32, Crc32c, Crc64Nvme, Sha1, Sha256}

-- which kind of checksum runs over which data
pub record SummedState : Type 0 where
  pub algorithm : ChecksumAlgorithm
  pub bytes : List ℕ

-- a mark of each kind
abbrev pub mark_of : ChecksumAlgorithm → ℕ
mark_of Crc32 = 0
mark_of Crc32c = 1
mark_of Crc64Nvme = 2
mark_of Sha1 = 3
mark_of Sha256 = 4

-- the data behind the mark of its kind
abbrev pub marked : SummedState → List ℕ
marked s = mark_of s.algorithm ∷ s.bytes

-- what is wrong, if anything
abbrev pub fault_in : Result (List ℕ) Code → Option Code
fault_in (Ok bytes) = None
fault_in (Err code) = Some code
