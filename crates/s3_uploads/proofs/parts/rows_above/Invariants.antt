use Rattle.std.proofs.Common.{◌≡◌, ◌≤◌, ◌++◌, length}
use Rattle.std.specs.BTreeMap.Range.{entries_between}
use Rattle.std.specs.Ordering.{nat_cmp}
use Rattle.std.specs.declared.ops.Bound.TheVariants.{Excluded, Unbounded}
use Rattle.s3_uploads.specs.Parts.{part_rows}
use Rattle.s3_uploads.proofs.parts.rows_above.Given as goal

-- the rows so far, and those of the parts that are left, are all, and they are not too many
abbrev pub invariant-loop-number : goal.invariant-loop-number
invariant-loop-number g l = record {
  rows : l.rows.items ++ part_rows l.number-iterator ≡ part_rows (entries_between nat_cmp (Excluded l.fn.last) Unbounded l.parts.entries);
  few : length l.rows.items ≤ l.most;
}
