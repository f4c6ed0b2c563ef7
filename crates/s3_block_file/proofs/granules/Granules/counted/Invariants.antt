use Rattle.std.proofs.Common.{◌≡◌, ◌≤◌, ℕ, take, slice_index}
use Rattle.std.specs.Prelude.{count_by, All}
use Rattle.s3_block_file.specs.Extent.{lies_in, IsAddressable, EndsWithin}
use Rattle.s3_block_file.proofs.granules.Granules.counted.Given as goal

abbrev pub invariant-loop-extent : goal.invariant-loop-extent
invariant-loop-extent l = record {
  counts : (k : ℕ) → slice_index l.granules k ≡ count_by (lies_in k) (take l.extent-index l.live);
  most : (k : ℕ) → slice_index l.granules k ≤ 1;
  addressable : All IsAddressable (take l.extent-index l.live);
  within : All (EndsWithin l.size) (take l.extent-index l.live);
}
