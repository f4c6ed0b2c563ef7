use Rattle.std.proofs.Common.{to_z-of_z, pos, ◌+ℤ◌}
use Rattle.s3_records.specs.Changes.{BucketAdded}
use Rattle.s3_table_records.proofs.KeptLemmas.{passed, kept_later}
use Rattle.s3_table_records.proofs.buckets.add_bucket.Goals as goal

pub returns-clause-changes : goal.returns-clause-changes
returns-clause-changes g c =
    passed (g.R.StoredRows.tables c.args.rows.now) (g.B.StoredBodies.contents c.args.bodies.now) (g.B.StoredBodies.uses c.args.bodies.now) c.args.next (c.args.next +ℤ pos 1) c.requires.kept
    (kept_later (g.R.StoredRows.tables c.args.rows.now) (g.B.StoredBodies.contents c.args.bodies.now) (g.B.StoredBodies.uses c.args.bodies.now) c.args.next c.requires.kept)
    c.args.bucket.now (BucketAdded c.args.moment) (g.R.StoredRows.tables c.add_bucket.new.rows) c.add_bucket.result
    (rw (to_z-of_z c.ranges.next) at c.add_bucket.ensures.ok) c.add_bucket.ensures.err
