use Rattle.std.proofs.Common.{◌≡◌, ◌-◌, ◌≤◌, length, take}
use Rattle.s3_memory_disk.specs.Chunks.{overwritten}
use Rattle.s3_memory_disk.proofs.chunks.Chunks.write.Given as goal

abbrev pub invariant-loop-done : goal.invariant-loop-done
invariant-loop-done l = record {
  so_far : l.self ≡ overwritten l.initial.self l.at (take l.done l.bytes);
  inside : l.done ≤ length l.bytes;
}

abbrev pub decreases-loop-done : goal.decreases-loop-done
decreases-loop-done l = length l.bytes - l.done
