use Rattle.std.proofs.Common.{◌≡◌, ◌+◌, ◌<◌, ◌≤◌, ℕ, slice_index}
use Rattle.s3_block_file.specs.Uses.{AreFree}
use Rattle.s3_block_file.proofs.uses.first_fit.Given as goal

abbrev pub invariant-loop-granule : goal.invariant-loop-granule
invariant-loop-granule l = record {
  low : l.from ≤ l.granule;
  short : l.granule < l.from + l.count;
  free : (k : ℕ) → l.from ≤ k → k < l.granule → slice_index l.uses k ≡ 0;
  first : (at : ℕ) → l.low ≤ at → at < l.from → AreFree l.uses at l.count → ⊥;
}
