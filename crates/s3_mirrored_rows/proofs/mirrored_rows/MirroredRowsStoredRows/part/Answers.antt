use Rattle.std.proofs.Common.{sym, subst, to_z-of_z}
use Rattle.s3_rows.specs.Columns.{Tables}
use Rattle.s3_mirrored_rows.specs.Mirror.{Awaits}
use Rattle.s3_mirrored_rows.proofs.mirrored_rows.MirroredRowsStoredRows.part.Goals as goal

pub invariant_of-self : goal.invariant_of-self
invariant_of-self g c = subst (λ (t : Tables). Awaits (g.F.LastingTables.state c.self.inside.file) c.self.inside.waiting.items t) (sym c.part.ensures.same) c.self.invariant

pub returns-clause-value : goal.returns-clause-value
returns-clause-value g c = rw (← c.self.view_is) (rw (to_z-of_z c.ranges.upload, to_z-of_z c.ranges.part) at c.part.ensures.value)
