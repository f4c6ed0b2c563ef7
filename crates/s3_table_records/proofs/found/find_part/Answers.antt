use Rattle.std.proofs.Common.{to_z-of_z, ◌∙◌, SFits, w64, rules}
use Rattle.s3_stored_rows.specs.Bodies.{encoding}
use Rattle.s3_stored_rows.specs.Changes.{upload_columns}
use Rattle.s3_table_records.proofs.UploadLemmas.{part_told}
use Rattle.s3_table_records.proofs.found.find_part.Goals as goal

pub returns-clause-told : goal.returns-clause-told
returns-clause-told g c =
    let fits : SFits w64 c.in_ok-upload.upload.row = search rules in
    (rw (to_z-of_z fits, c.in_ok-row.ensures.same, c.in_ok-upload.ensures.same) at c.in_ok-told.ensures.part)
    ∙ part_told (encoding (g.B.StoredBodies.contents c.args.bodies.now)) (g.R.StoredRows.tables c.args.rows.now) c.requires.kept.rows.sound c.rows_tell_uploads.ensures.one
    c.args.bucket.now c.args.key.now c.args.id (upload_columns c.in_ok-upload.upload) c.args.number c.in_ok-upload.ensures.value
