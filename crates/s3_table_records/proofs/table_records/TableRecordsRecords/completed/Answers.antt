use Rattle.s3_table_records.proofs.LeavingLemmas.{stays_known}
use Rattle.s3_table_records.proofs.NumberLemmas.{numbered_still}
use Rattle.s3_table_records.proofs.table_records.TableRecordsRecords.completed.Goals as goal

pub returns-clause-stays : goal.returns-clause-stays
returns-clause-stays g c = rw (← c.self.view_is) (stays_known c.completed.ensures.stays c.completed.ensures.outlives)

pub invariant_of-self : goal.invariant_of-self
invariant_of-self g c = numbered_still c.completed.ensures.stays c.completed.ensures.tables c.completed.ensures.contents c.completed.ensures.uses c.self.invariant
