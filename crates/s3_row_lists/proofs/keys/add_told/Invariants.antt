use Rattle.std.proofs.Common.{◌≡◌, ◌≤◌, ◌++◌, None, drop, length, map, take}
use Rattle.std.specs.Option.{option_copied}
use Rattle.s3_rows.specs.KeyListLaws.{keys_listed}
use Rattle.s3_stored_bodies.specs.Numbers.{Contents}
use Rattle.s3_stored_rows.specs.Bodies.{encoding}
use Rattle.s3_stored_rows.specs.Changes.{version_columns}
use Rattle.s3_row_lists.proofs.keys.add_told.Given as goal

-- the keys so far, and those that are left behind the last, begin as all do, and they are not too many
abbrev pub invariant-loop-row : goal.invariant-loop-row
invariant-loop-row l = record {
  rows : (contents : Contents) → take l.most (l.told.items ++ keys_listed (encoding contents) (option_copied l.last) (map version_columns (drop l.row-index l.found)))
      ≡ take l.most (l.fn.told.items ++ keys_listed (encoding contents) None (map version_columns l.found));
  few : length l.told.items ≤ l.most;
}
