use Rattle.s3_table_records.proofs.LeavingLemmas.{stays_known}
use Rattle.s3_table_records.proofs.NumberLemmas.{numbered_still}
use Rattle.s3_table_records.proofs.table_records.TableRecordsRecords.version.Goals as goal

pub returns-clause-stays : goal.returns-clause-stays
returns-clause-stays g c = rw (← c.self.view_is) (stays_known c.version.ensures.stays c.version.ensures.outlives)

pub invariant_of-self : goal.invariant_of-self
invariant_of-self g c = numbered_still c.version.ensures.stays c.version.ensures.tables c.version.ensures.contents c.version.ensures.uses c.self.invariant
