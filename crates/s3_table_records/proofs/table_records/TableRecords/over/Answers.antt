use Rattle.std.proofs.Common.{to_z-of_z}
use Rattle.s3_table_records.specs.Kept.{kept}
use Rattle.s3_table_records.proofs.NumberLemmas.{numbered_first}
use Rattle.s3_table_records.proofs.table_records.TableRecords.over.Goals as goal

pub invariant_of-result : goal.invariant_of-result
invariant_of-result g c =
    rw (to_z-of_z c.ranges.next)
    (numbered_first (g.R.StoredRows.leaves c.args.rows) c.args.number
    (kept (g.R.StoredRows.tables c.args.rows) (g.B.StoredBodies.contents c.args.bodies) (g.B.StoredBodies.uses c.args.bodies) c.args.next) c.requires.kept c.requires.says c.requires.above c.requires.left)
