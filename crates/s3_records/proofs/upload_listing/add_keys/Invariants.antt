use Rattle.std.proofs.Common.{◌≡◌, ◌≤◌, ◌++◌, length, take}
use Rattle.std.specs.List.{flat_map}
use Rattle.std.specs.BTreeMap.Range.{entries_between}
use Rattle.std.specs.Range.Bound.{bound_map}
use Rattle.std.specs.declared.ops.Bound.TheVariants.{Unbounded}
use Rattle.s3_text.specs.Order.{byte_order}
use Rattle.s3_records.specs.OpenUploads.{upload_rows_of}
use Rattle.s3_records.proofs.upload_listing.add_keys.Given as goal

-- the rows so far, and those of the keys that are left, begin as all do, and they are not too many
abbrev pub invariant-loop-key : goal.invariant-loop-key
invariant-loop-key l = record {
  rows : take l.most (l.rows.items ++ flat_map upload_rows_of l.key-iterator) ≡ take l.most (l.fn.rows.items ++ flat_map upload_rows_of (entries_between byte_order (bound_map (λ x. x.now) l.first) Unbounded l.keys.entries));
  few : length l.rows.items ≤ l.most;
}
