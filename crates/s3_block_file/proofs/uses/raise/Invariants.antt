use Rattle.std.proofs.Common.{◌≡◌, ◌+◌, ◌<◌, ◌≤◌, ℕ, slice_index}
use Rattle.s3_block_file.proofs.uses.raise.Given as goal

abbrev pub invariant-loop-granule : goal.invariant-loop-granule
invariant-loop-granule l = record {
  these : (k : ℕ) → l.first ≤ k → k < l.granule → slice_index l.uses k ≡ slice_index l.initial.uses k + 1;
  in_front : (k : ℕ) → k < l.first → slice_index l.uses k ≡ slice_index l.initial.uses k;
  behind : (k : ℕ) → l.granule ≤ k → slice_index l.uses k ≡ slice_index l.initial.uses k;
}
