use Rattle.std.proofs.Common.{to_z-of_z, pos, ◌+ℤ◌}
use Rattle.s3_records.specs.Changes.{VersioningSet}
use Rattle.s3_table_records.proofs.KeptLemmas.{passed, kept_later}
use Rattle.s3_table_records.proofs.buckets.set_versioning.Goals as goal

pub returns-clause-changes : goal.returns-clause-changes
returns-clause-changes g c =
    passed (g.R.StoredRows.tables c.args.rows.now) (g.B.StoredBodies.contents c.args.bodies.now) (g.B.StoredBodies.uses c.args.bodies.now) c.args.next (c.args.next +ℤ pos 1) c.requires.kept
    (kept_later (g.R.StoredRows.tables c.args.rows.now) (g.B.StoredBodies.contents c.args.bodies.now) (g.B.StoredBodies.uses c.args.bodies.now) c.args.next c.requires.kept)
    c.args.bucket.now (VersioningSet c.args.status) (g.R.StoredRows.tables c.set_versioning.new.rows) c.set_versioning.result
    (rw (to_z-of_z c.ranges.next) at c.set_versioning.ensures.ok) c.set_versioning.ensures.err
