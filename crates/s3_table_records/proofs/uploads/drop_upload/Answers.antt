use Rattle.std.proofs.Common.{to_z-of_z}
use Rattle.s3_table_records.proofs.KeptLemmas.{done_alike, failed_alike}
use Rattle.s3_table_records.proofs.uploads.drop_upload.Goals as goal

pub returns-in-Ok-drop_found-clause-changes : goal.returns-in-Ok-drop_found-clause-changes
returns-in-Ok-drop_found-clause-changes g c = done_alike (rw (to_z-of_z c.ranges.next, c.in-Ok.ensures.tables, c.in-Ok.ensures.contents, c.in-Ok.ensures.uses) at c.in-Ok-drop_found.ensures.changes)

pub returns-in-Err-drop_found-clause-changes : goal.returns-in-Err-drop_found-clause-changes
returns-in-Err-drop_found-clause-changes g c = failed_alike (rw (to_z-of_z c.ranges.next, c.in-Ok.ensures.tables, c.in-Ok.ensures.contents, c.in-Ok.ensures.uses) at c.in-Err-drop_found.ensures.changes)
