-- What a file of bodies has.
use Rattle.std.specs.Prelude.{ℕ, List}
use Rattle.s3_block_file.specs.declared.block_file.BlockFile.{BlockFile}
use Rattle.s3_block_file.specs.declared.extent.Extent.{Extent}
use Rattle.s3_block_file.specs.Extent.{granules_for, Stores}
use Rattle.s3_block_file.specs.Uses.{AreTaken}

-- the disk that the bodies lie on
abbrev pub disk_of : {D : Type 0} → BlockFile D → D
disk_of file = file.disk

-- how many bodies have each granule
abbrev pub uses_of : {D : Type 0} → BlockFile D → List ℕ
uses_of file = file.granules

-- each granule of the extent is taken, so no new body is given one of them
abbrev pub IsLive : {D : Type 0} → BlockFile D → Extent → Type 0
IsLive file e = AreTaken (uses_of file) e.first (granules_for e.size)

-- whatever a crash now leaves, the bytes in this extent are these
abbrev pub Survives : {D : Type 0} → (D → List ℕ → Type 0) → BlockFile D → Extent → List ℕ → Type 0
Survives may_leave file e bytes = (left : List ℕ) → may_leave (disk_of file) left → Stores left e bytes
