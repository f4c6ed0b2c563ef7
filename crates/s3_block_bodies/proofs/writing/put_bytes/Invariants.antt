use Rattle.std.proofs.Common.{◌≤◌, ◌-◌, ◌++◌, IsTrue, length, take}
use Rattle.s3_block_file.specs.Extent.{StartsWith}
use Rattle.s3_block_file.specs.BlockFile.{disk_of}
use Rattle.s3_block_bodies.specs.Header.{header_of}
use Rattle.s3_block_bodies.specs.Spares.{Spares}
use Rattle.s3_block_bodies.proofs.writing.put_bytes.Given as goal

-- the bytes up to the place lie behind the header
abbrev pub invariant-loop-at : goal.invariant-loop-at
invariant-loop-at g l = record {
  inside : l.at ≤ length l.body;
  begun : StartsWith (g.D.Disk.seen (disk_of l.file)) l.extent (header_of l.body ++ take l.at l.body);
  spares : Spares g.D.Disk.seen g.D.Disk.may_leave g.D.Disk.is_clean l.extent l.fn.file l.file;
  usable : IsTrue (g.D.Disk.is_usable (disk_of l.file));
}

abbrev pub decreases-loop-at : goal.decreases-loop-at
decreases-loop-at g l = length l.body - l.at
