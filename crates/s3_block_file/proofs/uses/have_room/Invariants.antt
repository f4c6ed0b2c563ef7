use Rattle.std.proofs.Common.{◌<◌, ◌≤◌, ◌-◌, ◌^◌, ℕ, slice_index}
use Rattle.s3_block_file.proofs.uses.have_room.Given as goal

abbrev pub invariant-loop-granule : goal.invariant-loop-granule
invariant-loop-granule l = (k : ℕ) → l.first ≤ k → k < l.granule → slice_index l.uses k < 2 ^ 32 - 1
