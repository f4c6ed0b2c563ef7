use Rattle.std.proofs.Common.{◌≡◌, sym, ◌∙◌, w64, to_z, of_z, rules}
use Rattle.std.proofs.lemmas.Result.{IfOk-weaker}
use Rattle.s3_stored_rows.specs.Bodies.{encoding}
use Rattle.s3_row_lists.proofs.PartLemmas.{same_found, parts_of_none, parts_of_some}
use Rattle.s3_row_lists.proofs.parts.parts_from.Goals as goal

pub returns-in-None-clause-value : goal.returns-in-None-clause-value
returns-in-None-clause-value g c = λ contents.
    c.new.ensures.items
    ∙ sym (parts_of_none (encoding contents) (g.R.StoredRows.tables c.args.rows.now) c.args.bucket.now c.args.key.now c.as_bytes.result.now c.as_bytes-2.result.now c.args.id c.in_ok-row_of_upload.field-0 c.requires
    c.as_bytes.ensures.value c.as_bytes-2.ensures.value (same_found c.as_bytes.result.now c.as_bytes-2.result.now c.number.result c.args.id c.in_ok-row_of_upload.field-0 (g.R.StoredRows.tables c.args.rows.now) c.number.ensures.value c.in_ok-row_of_upload.ensures.value)
    c.args.last c.args.most c.in-None.is)

pub returns-in-Some-clause-value : goal.returns-in-Some-clause-value
returns-in-Some-clause-value g c = λ contents.
    let row : to_z w64 (of_z w64 c.in-Some.upload) ≡ c.in-Some.upload = search rules in
    IfOk-weaker c.parts_above.result _ _
    (λ told is. is ∙ parts_of_some (encoding contents) (g.R.StoredRows.tables c.args.rows.now) c.args.bucket.now c.args.key.now c.as_bytes.result.now c.as_bytes-2.result.now c.args.id c.in_ok-row_of_upload.field-0 c.requires
    c.as_bytes.ensures.value c.as_bytes-2.ensures.value (same_found c.as_bytes.result.now c.as_bytes-2.result.now c.number.result c.args.id c.in_ok-row_of_upload.field-0 (g.R.StoredRows.tables c.args.rows.now) c.number.ensures.value c.in_ok-row_of_upload.ensures.value)
    c.args.last c.args.most c.in-Some.upload (to_z w64 (of_z w64 c.in-Some.upload)) (g.R.StoredRows.tables c.row_of_upload.new.rows) row c.in_ok-row_of_upload.ensures.same c.in-Some.is)
    (c.parts_above.ensures.value contents)
