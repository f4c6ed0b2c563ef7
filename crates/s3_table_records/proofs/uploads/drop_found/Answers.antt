use Rattle.std.proofs.Common.{to_z-of_z, ◌∙◌, refl, pos}
use Rattle.s3_records.specs.Changes.{UploadDropped}
use Rattle.s3_stored_rows.specs.Queries.{upload_of_id}
use Rattle.s3_row_changes.specs.Trading.{sent_numbers}
use Rattle.s3_table_records.proofs.KeptLemmas.{is_gone}
use Rattle.s3_table_records.proofs.UploadLemmas.{gone_counted}
use Rattle.s3_table_records.proofs.uploads.drop_found.Goals as goal

pub give_up_all-requires : goal.give_up_all-requires
give_up_all-requires g c =
    gone_counted (g.R.StoredRows.tables c.args.rows.now) (g.R.StoredRows.tables c.drop_upload.new.rows) (g.B.StoredBodies.uses c.args.bodies.now)
    (sent_numbers (g.R.StoredRows.tables c.args.rows.now) (upload_of_id c.args.bucket.now c.args.key.now (pos c.args.id) (g.R.StoredRows.tables c.args.rows.now))) c.deref.result.now
    c.requires.kept.named c.in-Ok.ensures.ok.trades (c.deref.ensures.value ∙ c.requires.names)

pub returns-in-Ok-clause-changes : goal.returns-in-Ok-clause-changes
returns-in-Ok-clause-changes g c =
    let t = g.R.StoredRows.tables c.args.rows.now in
    let found = upload_of_id c.args.bucket.now c.args.key.now (pos c.args.id) t in
    is_gone t (g.B.StoredBodies.contents c.args.bodies.now) (g.B.StoredBodies.uses c.args.bodies.now) c.args.next c.requires.kept c.args.bucket.now _
    _ (g.R.StoredRows.tables c.drop_upload.new.rows) (g.B.StoredBodies.contents c.give_up_all.new.bodies) (g.B.StoredBodies.uses c.give_up_all.new.bodies) c.args.next
    (λ _. UploadDropped c.args.key.now c.args.id) (sent_numbers t found) (rw (to_z-of_z c.ranges.next) at c.in-Ok.ensures.ok) refl
    (rw (c.deref.ensures.value, c.requires.names) at c.give_up_all.ensures.uses) c.give_up_all.ensures.contents
