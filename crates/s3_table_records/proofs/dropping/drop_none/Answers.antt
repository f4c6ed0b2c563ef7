use Rattle.std.proofs.Common.{to_z-of_z}
use Rattle.s3_versions.specs.Rules.{VersionDropped}
use Rattle.s3_records.specs.Changes.{KeyChanged}
use Rattle.s3_table_records.proofs.KeptLemmas.{passed}
use Rattle.s3_table_records.proofs.dropping.drop_none.Goals as goal

pub returns-clause-changes : goal.returns-clause-changes
returns-clause-changes g c =
    passed (g.R.StoredRows.tables c.args.rows.now) (g.B.StoredBodies.contents c.args.bodies.now) (g.B.StoredBodies.uses c.args.bodies.now) c.args.next c.args.next c.requires.kept c.requires.kept c.args.bucket.now (KeyChanged c.args.key.now (VersionDropped c.args.id))
    (g.R.StoredRows.tables c.drop_version.new.rows) c.drop_version.result (rw (to_z-of_z c.ranges.next) at c.drop_version.ensures.ok) c.drop_version.ensures.err
