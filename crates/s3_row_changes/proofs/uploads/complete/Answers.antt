use Rattle.std.proofs.Common.{◌≡◌, ap, ◌∙◌, [], ◌∷◌, ◌++◌, List}
use Rattle.std.proofs.lemmas.Result.{on_ok_weaker}
use Rattle.s3_stored_rows.specs.declared.change.Change.{Change}
use Rattle.s3_stored_rows.specs.declared.change.Change.TheVariants.{AddVersion}
use Rattle.s3_stored_rows.specs.declared.rows.TableName.TheVariants.{Versions}
use Rattle.s3_stored_rows.specs.Changes.{after_all}
use Rattle.s3_row_changes.specs.Dropping.{drops_row, drops_upload}
use Rattle.s3_row_changes.proofs.ChangeLemmas.{completes}
use Rattle.s3_row_changes.proofs.uploads.complete.Goals as goal

pub returns-clause-ok : goal.returns-clause-ok
returns-clause-ok g c =
    let t = g.R.StoredRows.tables c.args.rows.now in
    let all : c.as_slice.result.now ≡ (drops_upload c.args.upload.now ++ drops_row Versions c.args.gone) ++ AddVersion c.args.version ∷ [] =
    ◌∙◌ {A = List Change} (c.as_slice.ensures.value ∙ c.in_ok-push_replacing.ensures) (ap (λ l. (l ++ drops_row Versions c.args.gone) ++ AddVersion c.args.version ∷ []) c.in_ok-changes.ensures) in
    on_ok_weaker c.apply.result (λ made. made ∙ ap (λ changes. after_all changes t) all ∙ completes t c.requires.sound c.args.version c.args.gone c.args.upload.now c.requires.gone c.requires.rows) c.apply.ensures.ok
