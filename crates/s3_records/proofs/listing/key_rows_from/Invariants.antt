use Rattle.std.proofs.Common.{◌≡◌, ◌≤◌, ◌++◌, length, map}
use Rattle.std.specs.BTreeMap.Range.{entries_between}
use Rattle.std.specs.Range.Bound.{bound_map}
use Rattle.std.specs.declared.ops.Bound.TheVariants.{Unbounded}
use Rattle.s3_text.specs.Order.{byte_order}
use Rattle.s3_records.specs.Rows.{key_row}
use Rattle.s3_records.proofs.listing.key_rows_from.Given as goal

-- the rows so far, and those of the keys that are left, are all, and they are not too many
abbrev pub invariant-loop-key : goal.invariant-loop-key
invariant-loop-key l = record {
  rows : l.rows.items ++ map key_row l.key-iterator ≡ map key_row (entries_between byte_order (bound_map (λ x. x.now) l.first) Unbounded l.keys.entries);
  few : length l.rows.items ≤ l.most;
}
