use Rattle.std.proofs.Common.{◌≡◌, ◌+◌, ℕ, take, slice_index}
use Rattle.std.specs.Prelude.{count_by}
use Rattle.s3_block_file.specs.Extent.{lies_in}
use Rattle.s3_block_file.proofs.granules.lower_all.Given as goal

abbrev pub invariant-loop-extent : goal.invariant-loop-extent
invariant-loop-extent l = record {
  counts : (k : ℕ) → slice_index l.granules k + count_by (lies_in k) (take l.extent-index l.extents) ≡ slice_index l.fn.granules k;
}
