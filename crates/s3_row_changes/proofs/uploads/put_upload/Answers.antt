use Rattle.std.proofs.Common.{◌≡◌, ap, ◌∙◌, [], ◌∷◌, ◌++◌, List}
use Rattle.std.proofs.lemmas.Result.{on_ok_weaker}
use Rattle.std.specs.Option.{option_copied}
use Rattle.s3_stored_rows.specs.declared.change.Change.{Change}
use Rattle.s3_stored_rows.specs.declared.change.Change.TheVariants.{AddUpload}
use Rattle.s3_stored_rows.specs.Changes.{after_all}
use Rattle.s3_row_changes.specs.Dropping.{drops_any_upload}
use Rattle.s3_row_changes.proofs.ChangeLemmas.{puts_upload}
use Rattle.s3_row_changes.proofs.uploads.put_upload.Goals as goal

pub returns-clause-ok : goal.returns-clause-ok
returns-clause-ok g c =
    let t = g.R.StoredRows.tables c.args.rows.now in
    let gone = option_copied c.args.gone in
    let all : c.as_slice.result.now ≡ drops_any_upload gone ++ AddUpload c.args.upload ∷ [] =
    ◌∙◌ {A = List Change} (c.as_slice.ensures.value ∙ c.in_ok-push.ensures.items) (ap (λ l. l ++ AddUpload c.args.upload ∷ []) c.in_ok-changes.ensures) in
    on_ok_weaker c.apply.result (λ made. made ∙ ap (λ changes. after_all changes t) all ∙ puts_upload t c.requires.sound c.args.upload gone c.requires.found c.requires.rows) c.apply.ensures.ok
