use Rattle.std.proofs.Common.{◌≡◌, ◌≤◌, ◌-◌, ◌++◌, None, length, take}
use Rattle.s3_rows.specs.KeyListLaws.{keys_listed}
use Rattle.s3_stored_bodies.specs.Numbers.{Contents}
use Rattle.s3_stored_rows.specs.Bodies.{encoding}
use Rattle.s3_stored_rows.specs.Leaving.{LeavesNoMore}
use Rattle.s3_stored_rows.specs.Queries.{versions_behind}
use Rattle.s3_row_lists.proofs.keys.add_behind.Given as goal

-- the keys so far, and those that are left behind the last, begin as all do, they are not too many, and a crash leaves no more
abbrev pub invariant-loop-alloc : goal.invariant-loop-alloc
invariant-loop-alloc g l = record {
  rows : (contents : Contents) → take l.most (l.told.items ++ keys_listed (encoding contents) None (versions_behind l.bucket l.last.items (g.R.StoredRows.tables l.rows)))
      ≡ take l.most (l.fn.told.items ++ keys_listed (encoding contents) None (versions_behind l.bucket l.fn.key.items (g.R.StoredRows.tables l.fn.rows)));
  same : g.R.StoredRows.tables l.rows ≡ g.R.StoredRows.tables l.fn.rows;
  few : length l.told.items ≤ l.most;
  stays : LeavesNoMore g.R.StoredRows.leaves l.fn.rows l.rows;
}

abbrev pub decreases-loop-alloc : goal.decreases-loop-alloc
decreases-loop-alloc g l = l.most - length l.told.items
