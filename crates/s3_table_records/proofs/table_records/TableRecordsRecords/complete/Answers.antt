use Rattle.std.proofs.Common.{SFits, w64, to_z-of_z, rules}
use Rattle.s3_table_records.proofs.LeavingLemmas.{stays_known}
use Rattle.s3_table_records.proofs.NumberLemmas.{numbered_change}
use Rattle.s3_table_records.proofs.table_records.TableRecordsRecords.complete.Goals as goal

pub returns-clause-stays : goal.returns-clause-stays
returns-clause-stays g c = rw (← c.self.view_is) (stays_known c.complete-completed.ensures.stays c.complete-completed.ensures.outlives)

pub returns-clause-ok : goal.returns-clause-ok
returns-clause-ok g c = rw (← c.self.view_is) c.complete-completed.ensures.changes.ok

pub returns-clause-err : goal.returns-clause-err
returns-clause-err g c = rw (← c.self.view_is) c.complete-completed.ensures.changes.err

pub invariant_of-self : goal.invariant_of-self
invariant_of-self g c =
    let fits : SFits w64 c.self.inside.next = search rules in
    let small : SFits w64 c.in-Some.later = search rules in
    let later = rw (to_z-of_z fits) at c.in-Some.ensures.row in
    rw (c.counted-self-inside.ensures, c.is_ok.ensures.value, to_z-of_z small, later)
    (numbered_change c.complete-completed.ensures.stays c.in-Some.above c.complete-completed.result c.self.invariant (rw (to_z-of_z fits) at c.complete-completed.ensures.changes)
    (rw (← c.self.view_is) at c.requires.there) c.in-Some.ensures.entry tt c.in-Some.ensures.rises)
