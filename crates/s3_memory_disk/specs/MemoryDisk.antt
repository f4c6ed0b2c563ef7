-- What a disk in memory shows.
use Rattle.std.specs.Prelude.{ℕ, List}
use Rattle.s3_memory_disk.specs.declared.memory_disk.MemoryDisk.{MemoryDisk}

-- its bytes, which are its member `seen`
abbrev pub disk_bytes : MemoryDisk → List ℕ
disk_bytes disk = disk.content

-- how many calls have failed, which is its member `faults`
abbrev pub disk_faults : MemoryDisk → ℕ
disk_faults disk = disk.faults
