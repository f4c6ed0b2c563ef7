use Rattle.std.proofs.Common.{◌≡◌, refl, pos, ◌+ℤ◌, SFits, w64, to_z-of_z, rules}
use Rattle.s3_table_records.proofs.LeavingLemmas.{stays_known}
use Rattle.s3_table_records.proofs.NumberLemmas.{numbered_beside}
use Rattle.s3_table_records.proofs.table_records.TableRecordsRecords.set_versioning.Goals as goal

pub returns-clause-stays : goal.returns-clause-stays
returns-clause-stays g c = rw (← c.self.view_is) (stays_known c.set_versioning-set.ensures.stays (λ n bytes did. did))

pub returns-clause-ok : goal.returns-clause-ok
returns-clause-ok g c = rw (← c.self.view_is) c.set_versioning-set.ensures.changes.ok

pub returns-clause-err : goal.returns-clause-err
returns-clause-err g c = rw (← c.self.view_is) c.set_versioning-set.ensures.changes.err

pub invariant_of-self : goal.invariant_of-self
invariant_of-self g c =
    let fits : SFits w64 c.self.inside.next = search rules in
    let small : SFits w64 c.in-Some.later = search rules in
    let later : c.in-Some.later ≡ c.self.inside.next +ℤ pos 1 = search rules in
    rw (to_z-of_z small, later)
    (numbered_beside c.set_versioning-set.ensures.stays c.set_versioning-set.result c.self.invariant (rw (to_z-of_z fits) at c.set_versioning-set.ensures.changes) refl refl refl)
