use Rattle.std.proofs.Common.{◌≡◌, ◌≤◌, ◌++◌, length, map}
use Rattle.std.specs.BTreeMap.Range.{entries_between}
use Rattle.std.specs.Ordering.{nat_cmp}
use Rattle.std.specs.Range.Bound.{bound_map}
use Rattle.std.specs.declared.ops.Bound.TheVariants.{Unbounded}
use Rattle.s3_records.specs.OpenUploads.{upload_row}
use Rattle.s3_records.proofs.upload_listing.add_ids.Given as goal

-- the rows so far, and those of the uploads that are left, are all, and they are not too many
abbrev pub invariant-loop-id : goal.invariant-loop-id
invariant-loop-id l = record {
  rows : l.rows.items ++ map (upload_row l.key) l.id-iterator ≡ l.fn.rows.items ++ map (upload_row l.key) (entries_between nat_cmp (bound_map (λ x. x.now) l.first) Unbounded l.ids.entries);
  few : length l.rows.items ≤ l.most;
}
