use Rattle.std.proofs.Common.{◌≡◌, ap, ◌∙◌}
use Rattle.std.proofs.lemmas.Result.{on_ok_weaker}
use Rattle.s3_stored_rows.specs.Changes.{after_all}
use Rattle.s3_row_changes.specs.Dropping.{drops_upload}
use Rattle.s3_row_changes.proofs.ChangeLemmas.{drops_upload_of}
use Rattle.s3_row_changes.proofs.uploads.drop_upload.Goals as goal

pub returns-clause-ok : goal.returns-clause-ok
returns-clause-ok g c =
    let t = g.R.StoredRows.tables c.args.rows.now in
    let all : c.as_slice.result.now ≡ drops_upload c.args.gone.now = c.as_slice.ensures.value ∙ c.in_ok-changes.ensures in
    on_ok_weaker c.apply.result (λ made. made ∙ ap (λ changes. after_all changes t) all ∙ drops_upload_of t c.requires.sound c.args.gone.now c.requires.rows) c.apply.ensures.ok
