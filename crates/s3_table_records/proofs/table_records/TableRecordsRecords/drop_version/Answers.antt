use Rattle.std.proofs.Common.{refl, SFits, w64, to_z-of_z, rules}
use Rattle.s3_table_records.proofs.LeavingLemmas.{stays_known}
use Rattle.s3_table_records.proofs.NumberLemmas.{numbered_beside}
use Rattle.s3_table_records.proofs.table_records.TableRecordsRecords.drop_version.Goals as goal

pub returns-clause-stays : goal.returns-clause-stays
returns-clause-stays g c = rw (← c.self.view_is) (stays_known c.drop_version.ensures.stays c.drop_version.ensures.outlives)

pub invariant_of-self : goal.invariant_of-self
invariant_of-self g c =
    let fits : SFits w64 c.self.inside.next = search rules in
    numbered_beside c.drop_version.ensures.stays c.drop_version.result c.self.invariant (rw (to_z-of_z fits) at c.drop_version.ensures.changes) (rw (← c.self.view_is) at c.requires) refl refl
