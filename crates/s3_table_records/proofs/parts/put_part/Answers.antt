use Rattle.std.proofs.Common.{to_z-of_z}
use Rattle.s3_table_records.proofs.KeptLemmas.{is_same, done_alike, failed_alike}
use Rattle.s3_table_records.proofs.parts.put_part.Goals as goal

pub returns-in-Err-clause-changes : goal.returns-in-Err-clause-changes
returns-in-Err-clause-changes g c =
    rw (c.in-Err.ensures.tables, c.in-Err.ensures.contents, c.in-Err.ensures.uses)
    (is_same (g.R.StoredRows.tables c.args.rows.now) (g.B.StoredBodies.contents c.args.bodies.now) (g.B.StoredBodies.uses c.args.bodies.now) c.args.next c.requires.kept c.args.bucket.now _ _)

pub returns-in-Ok-put_whole-clause-changes : goal.returns-in-Ok-put_whole-clause-changes
returns-in-Ok-put_whole-clause-changes g c = done_alike (rw (to_z-of_z c.ranges.next, c.in-Ok.ensures.tables, c.in-Ok.ensures.contents, c.in-Ok.ensures.uses) at c.in-Ok-put_whole.ensures.changes)

pub returns-in-Err-put_whole-clause-changes : goal.returns-in-Err-put_whole-clause-changes
returns-in-Err-put_whole-clause-changes g c = failed_alike (rw (to_z-of_z c.ranges.next, c.in-Ok.ensures.tables, c.in-Ok.ensures.contents, c.in-Ok.ensures.uses) at c.in-Err-put_whole.ensures.changes)
