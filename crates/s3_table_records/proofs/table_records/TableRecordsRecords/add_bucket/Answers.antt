use Rattle.std.proofs.Common.{◌≡◌, refl, ap, not, pos, ◌+ℤ◌, SFits, w64, to_z-of_z, rules}
use Rattle.s3_table_records.proofs.LeavingLemmas.{stays_known}
use Rattle.s3_table_records.proofs.NumberLemmas.{numbered_beside}
use Rattle.s3_table_records.proofs.table_records.TableRecordsRecords.add_bucket.Goals as goal

pub returns-clause-stays : goal.returns-clause-stays
returns-clause-stays g c = rw (← c.self.view_is) (stays_known c.add_bucket-added.ensures.stays (λ n bytes did. did))

pub invariant_of-self : goal.invariant_of-self
invariant_of-self g c =
    let fits : SFits w64 c.self.inside.next = search rules in
    let small : SFits w64 c.in-Some.later = search rules in
    let later : c.in-Some.later ≡ c.self.inside.next +ℤ pos 1 = search rules in
    rw (to_z-of_z small, later)
    (numbered_beside c.add_bucket-added.ensures.stays c.add_bucket-added.result c.self.invariant (rw (to_z-of_z fits) at c.add_bucket-added.ensures.changes) (ap not (rw (← c.self.view_is) at c.requires)) refl refl)
