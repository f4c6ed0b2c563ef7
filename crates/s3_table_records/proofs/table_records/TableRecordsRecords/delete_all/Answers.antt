use Rattle.s3_table_records.proofs.LeavingLemmas.{stays_known}
use Rattle.s3_table_records.proofs.NumberLemmas.{numbered_deletions}
use Rattle.s3_table_records.proofs.table_records.TableRecordsRecords.delete_all.Goals as goal

pub returns-clause-stays : goal.returns-clause-stays
returns-clause-stays g c = rw (← c.self.view_is) (stays_known c.delete_all-deleted.ensures.stays c.delete_all-deleted.ensures.outlives)

pub invariant_of-self : goal.invariant_of-self
invariant_of-self g c =
    rw (c.counted-self-inside.ensures, c.is_ok.ensures.value)
    (numbered_deletions c.delete_all-deleted.ensures.stays c.in-Some.above c.delete_all-deleted.result c.self.invariant c.delete_all-deleted.ensures.deletes
    (rw (← c.self.view_is) at c.requires.there) c.in-Some.ensures.entry c.in-Some.ensures.rises)
