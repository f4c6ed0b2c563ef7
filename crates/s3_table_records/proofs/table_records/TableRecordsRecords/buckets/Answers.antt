use Rattle.std.proofs.Common.{refl}
use Rattle.s3_table_records.proofs.LeavingLemmas.{stays_known}
use Rattle.s3_table_records.proofs.NumberLemmas.{numbered_still}
use Rattle.s3_table_records.proofs.table_records.TableRecordsRecords.buckets.Goals as goal

pub returns-clause-stays : goal.returns-clause-stays
returns-clause-stays g c = rw (← c.self.view_is) (stays_known c.buckets.ensures.stays (λ n bytes did. did))

pub invariant_of-self : goal.invariant_of-self
invariant_of-self g c = numbered_still c.buckets.ensures.stays c.buckets.ensures.same refl refl c.self.invariant

pub returns-clause-value : goal.returns-clause-value
returns-clause-value g c = rw (← c.self.view_is) (c.buckets.ensures.value (g.B.StoredBodies.contents c.self.inside.bodies))
