use Rattle.std.proofs.Common.{◌≡◌, ◌-◌, length, take}
use Rattle.std.specs.List.{concat}
use Rattle.s3_memory_disk.specs.Chunks.{AreChunks}
use Rattle.s3_memory_disk.proofs.chunks.Chunks.grow.Given as goal

abbrev pub invariant-loop-alloc : goal.invariant-loop-alloc
invariant-loop-alloc l = record {
  are : AreChunks 65536 l.self-inside.chunks.items;
  kept : take (length l.fn.self) (concat l.self-inside.chunks.items) ≡ l.fn.self;
}

abbrev pub decreases-loop-alloc : goal.decreases-loop-alloc
decreases-loop-alloc l = l.wanted - length l.self-inside.chunks.items
