use Rattle.std.proofs.Common.{refl}
use Rattle.s3_table_records.proofs.LeavingLemmas.{stays_known}
use Rattle.s3_table_records.proofs.NumberLemmas.{numbered_still}
use Rattle.s3_table_records.proofs.table_records.TableRecordsRecords.uploads_from.Goals as goal

pub returns-clause-stays : goal.returns-clause-stays
returns-clause-stays g c = rw (← c.self.view_is) (stays_known c.uploads_from.ensures.stays (λ n bytes did. did))

pub invariant_of-self : goal.invariant_of-self
invariant_of-self g c = numbered_still c.uploads_from.ensures.stays c.uploads_from.ensures.same refl refl c.self.invariant

pub returns-clause-value : goal.returns-clause-value
returns-clause-value g c = rw (← c.self.view_is) (c.uploads_from.ensures.value (g.B.StoredBodies.contents c.self.inside.bodies))
