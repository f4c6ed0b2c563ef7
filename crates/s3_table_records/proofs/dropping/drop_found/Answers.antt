use Rattle.std.proofs.Common.{to_z-of_z}
use Rattle.s3_rows.specs.Finding.{id_column}
use Rattle.s3_stored_rows.specs.Changes.{version_columns}
use Rattle.s3_table_records.proofs.DroppingLemmas.{version_counted}
use Rattle.s3_table_records.proofs.KeptLemmas.{done_alike, failed_alike}
use Rattle.s3_table_records.proofs.dropping.drop_found.Goals as goal

pub version_from-requires : goal.version_from-requires
version_from-requires g c = record {
  named = version_counted (g.R.StoredRows.tables c.args.rows.now) (g.B.StoredBodies.uses c.args.bodies.now) c.requires.kept.named c.args.bucket.now c.args.key.now (id_column c.args.id) (version_columns c.args.row.now) c.requires.found;
}

pub returns-in-Ok-drop_row-clause-changes : goal.returns-in-Ok-drop_row-clause-changes
returns-in-Ok-drop_row-clause-changes g c = done_alike (rw (to_z-of_z c.ranges.next, c.version_from.ensures.contents, c.version_from.ensures.uses) at c.in-Ok-drop_row.ensures.changes)

pub returns-in-Err-drop_row-clause-changes : goal.returns-in-Err-drop_row-clause-changes
returns-in-Err-drop_row-clause-changes g c = failed_alike (rw (to_z-of_z c.ranges.next, c.version_from.ensures.contents, c.version_from.ensures.uses) at c.in-Err-drop_row.ensures.changes)
