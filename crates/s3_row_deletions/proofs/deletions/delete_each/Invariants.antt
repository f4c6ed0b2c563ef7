use Rattle.std.proofs.Common.{◌≡◌, take}
use Rattle.s3_stored_rows.specs.Leaving.{LeavesNoMore}
use Rattle.s3_row_deletions.specs.Steps.{AreSteps}
use Rattle.s3_row_deletions.proofs.deletions.delete_each.Given as goal

-- the deletions so far
abbrev pub invariant-loop-object : goal.invariant-loop-object
invariant-loop-object g l = record {
  steps : AreSteps (g.R.StoredRows.tables l.fn.rows) l.bucket l.entry (take l.object-index l.objects) l.all;
  same : g.R.StoredRows.tables l.rows ≡ g.R.StoredRows.tables l.fn.rows;
  stays : LeavesNoMore g.R.StoredRows.leaves l.fn.rows l.rows;
}
