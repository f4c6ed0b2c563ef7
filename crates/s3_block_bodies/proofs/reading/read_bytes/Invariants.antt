use Rattle.std.proofs.Common.{◌≡◌, ◌≤◌, ◌-◌, min, IsTrue, length}
use Rattle.std.specs.Vec.{vec_len}
use Rattle.sqlite_disk.specs.Disk.{Holds}
use Rattle.s3_block_bodies.proofs.reading.read_bytes.Given as goal

-- the bytes so far are those of the file
abbrev pub invariant-loop-from : goal.invariant-loop-from
invariant-loop-from g l = record {
  inside : l.from ≤ l.size;
  taken : length l.builder ≡ l.from;
  holds : IsTrue (g.D.Disk.is_clean l.disk) → Holds (g.D.Disk.seen l.fn.disk) l.at l.builder;
  room : vec_len l.room ≡ min 65536 l.size;
  seen : g.D.Disk.seen l.disk ≡ g.D.Disk.seen l.fn.disk;
  usable : IsTrue (g.D.Disk.is_usable l.disk);
  clean : IsTrue (g.D.Disk.is_clean l.disk) → IsTrue (g.D.Disk.is_clean l.fn.disk);
}

abbrev pub decreases-loop-from : goal.decreases-loop-from
decreases-loop-from g l = l.size - l.from
