use Rattle.std.proofs.Common.{◌≡◌, IsTrue, length, take}
use Rattle.s3_stored_bodies.specs.Numbers.{named_more}
use Rattle.s3_stored_bodies.specs.Held.{contents_of, uses_of}
use Rattle.s3_block_bodies.specs.Stored.{AreStored}
use Rattle.s3_block_bodies.specs.Loading.{AreListed}
use Rattle.s3_block_bodies.proofs.loading.load_all.Given as goal

-- the bodies of the numbers so far were read
abbrev pub invariant-loop-number : goal.invariant-loop-number
invariant-loop-number g l = record {
  uses : uses_of l.loaded.memory ≡ named_more (take l.number-index l.numbers) (λ _. 0);
  listed : AreListed (contents_of l.loaded.memory) l.loaded.extents.items;
  stored : IsTrue (g.D.Disk.is_clean l.disk) → AreStored (contents_of l.loaded.memory) (g.D.Disk.seen l.fn.disk);
  size : IsTrue (g.D.Disk.is_clean l.disk) → l.file_size ≡ length (g.D.Disk.seen l.fn.disk);
  seen : g.D.Disk.seen l.disk ≡ g.D.Disk.seen l.fn.disk;
  usable : IsTrue (g.D.Disk.is_usable l.disk);
  clean : IsTrue (g.D.Disk.is_clean l.disk) → IsTrue (g.D.Disk.is_clean l.fn.disk);
}
