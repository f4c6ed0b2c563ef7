use Rattle.std.proofs.Common.{◌≡◌, sym, ap, subst, ◌∙◌, pos, Some, option_map}
use Rattle.std.specs.Option.{IfSome, option_copied}
use Rattle.s3_stored_rows.specs.Bodies.{encoding}
use Rattle.s3_stored_rows.specs.Changes.{upload_columns}
use Rattle.s3_stored_rows.specs.Queries.{upload_of_id}
use Rattle.s3_row_changes.specs.Uploads.{AreRowsOf}
use Rattle.s3_table_records.proofs.UploadLemmas.{upload_named, parts_fit, numbers_rise, some_told}
use Rattle.s3_table_records.proofs.found.told_upload.Goals as goal

pub upload_from-requires-clause-named : goal.upload_from-requires-clause-named
upload_from-requires-clause-named g c =
    let t = g.R.StoredRows.tables c.args.rows.now in
    rw c.deref.ensures.value
    (upload_named t (g.B.StoredBodies.uses c.args.bodies.now) c.requires.named c.in-Some.found.now (subst (λ o. IfSome (option_copied o) (AreRowsOf t)) c.in-Some.is c.requires.rows))

pub upload_from-requires-clause-fit : goal.upload_from-requires-clause-fit
upload_from-requires-clause-fit g c =
    let t = g.R.StoredRows.tables c.args.rows.now in
    rw c.deref.ensures.value
    (parts_fit t c.in-Some.found.now c.requires.sound (subst (λ o. IfSome (option_copied o) (AreRowsOf t)) c.in-Some.is c.requires.rows))

pub upload_from-requires-clause-rising : goal.upload_from-requires-clause-rising
upload_from-requires-clause-rising g c =
    let t = g.R.StoredRows.tables c.args.rows.now in
    let found : upload_of_id c.args.bucket.now c.args.key.now (pos c.args.id) t ≡ Some (upload_columns c.in-Some.found.now.upload) =
    sym (ap (λ o. option_map (λ u. upload_columns u.upload) (option_copied o)) (sym c.in-Some.is) ∙ c.requires.found) in
    rw c.deref.ensures.value
    (numbers_rise (encoding (g.B.StoredBodies.contents c.args.bodies.now)) t c.requires.sound c.rows_tell_uploads.ensures.one c.args.bucket.now c.args.key.now c.args.id c.rows_tell_uploads.ensures.parts
    c.in-Some.found.now (subst (λ o. IfSome (option_copied o) (AreRowsOf t)) c.in-Some.is c.requires.rows) found)

pub returns-in-Ok-clause-value : goal.returns-in-Ok-clause-value
returns-in-Ok-clause-value g c =
    let t = g.R.StoredRows.tables c.args.rows.now in
    let found : upload_of_id c.args.bucket.now c.args.key.now (pos c.args.id) t ≡ Some (upload_columns c.in-Some.found.now.upload) =
    sym (ap (λ o. option_map (λ u. upload_columns u.upload) (option_copied o)) (sym c.in-Some.is) ∙ c.requires.found) in
    some_told (encoding (g.B.StoredBodies.contents c.args.bodies.now)) t c.requires.sound c.rows_tell_uploads.ensures.one c.args.bucket.now c.args.key.now c.args.id c.rows_tell_uploads.ensures.parts
    c.in-Some.found.now (subst (λ o. IfSome (option_copied o) (AreRowsOf t)) c.in-Some.is c.requires.rows) found c.in-Ok.upload
    (rw c.deref.ensures.value at c.in-Ok.ensures.value)
