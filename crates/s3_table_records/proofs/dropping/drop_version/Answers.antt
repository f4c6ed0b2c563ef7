use Rattle.std.proofs.Common.{to_z-of_z}
use Rattle.s3_table_records.proofs.KeptLemmas.{unchanged}
use Rattle.s3_table_records.proofs.dropping.drop_version.Goals as goal

pub drop_if_there-requires-clause-kept : goal.drop_if_there-requires-clause-kept
drop_if_there-requires-clause-kept g c = rw (to_z-of_z c.ranges.next, c.found_version.ensures.same) c.requires.kept

pub returns-in-Ok-clause-changes : goal.returns-in-Ok-clause-changes
returns-in-Ok-clause-changes g c = rw (to_z-of_z c.ranges.next, c.found_version.ensures.same) at c.drop_if_there.ensures.changes

pub returns-in-Err-clause-changes : goal.returns-in-Err-clause-changes
returns-in-Err-clause-changes g c =
    unchanged (g.R.StoredRows.tables c.args.rows.now) (g.R.StoredRows.tables c.found_version.new.rows) (g.B.StoredBodies.contents c.args.bodies.now) (g.B.StoredBodies.uses c.args.bodies.now) c.args.next c.requires.kept
    c.found_version.ensures.same c.args.bucket.now _ _
