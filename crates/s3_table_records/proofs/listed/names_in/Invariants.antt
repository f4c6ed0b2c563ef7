use Rattle.std.proofs.Common.{◌≡◌, take}
use Rattle.s3_stored_rows.specs.Leaving.{LeavesNoMore}
use Rattle.s3_table_records.specs.Listed.{all_listed}
use Rattle.s3_table_records.proofs.listed.names_in.Given as goal

-- the numbers so far are those of the parts so far, the rows are as they were, and a crash leaves no others
abbrev pub invariant-loop-part : goal.invariant-loop-part
invariant-loop-part g l = record {
  names : l.names.items ≡ all_listed (g.R.StoredRows.tables l.fn.rows) l.upload (take l.part-index l.listed);
  same : g.R.StoredRows.tables l.rows ≡ g.R.StoredRows.tables l.fn.rows;
  stays : LeavesNoMore g.R.StoredRows.leaves l.fn.rows l.rows;
}
