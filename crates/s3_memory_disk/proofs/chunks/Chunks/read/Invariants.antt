use Rattle.std.proofs.Common.{◌≡◌, ◌-◌, ◌≤◌, length, take, drop}
use Rattle.s3_memory_disk.proofs.chunks.Chunks.read.Given as goal

abbrev pub invariant-loop-done : goal.invariant-loop-done
invariant-loop-done l = record {
  so_far : take l.done l.buf ≡ take l.done (drop l.at l.self);
  inside : l.done ≤ length l.buf;
}

abbrev pub decreases-loop-done : goal.decreases-loop-done
decreases-loop-done l = length l.initial.buf - l.done
