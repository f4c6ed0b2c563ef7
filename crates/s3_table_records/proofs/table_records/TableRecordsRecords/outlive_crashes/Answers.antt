use Rattle.s3_table_records.proofs.LeavingLemmas.{is_one_of}
use Rattle.s3_table_records.proofs.table_records.TableRecordsRecords.outlive_crashes.Goals as goal

pub returns : goal.returns
returns g c =
    rw (← c.self.view_is)
    (is_one_of (g.R.StoredRows.leaves c.self.inside.rows) (g.B.StoredBodies.leaves c.self.inside.bodies) (g.B.StoredBodies.outlives c.self.inside.bodies) c.outlive_crashes.ensures)
