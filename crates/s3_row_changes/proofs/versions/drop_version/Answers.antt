use Rattle.std.proofs.Common.{ap, ◌∙◌, [], ◌∷◌, Some, to_z-of_z}
use Rattle.std.proofs.lemmas.Result.{on_ok_weaker}
use Rattle.s3_stored_rows.specs.declared.change.Change.TheVariants.{DropRow}
use Rattle.s3_stored_rows.specs.declared.rows.TableName.TheVariants.{Versions}
use Rattle.s3_stored_rows.specs.Changes.{after_all}
use Rattle.s3_row_changes.proofs.ChangeLemmas.{drops_version_of}
use Rattle.s3_row_changes.proofs.versions.drop_version.Goals as goal

pub returns-clause-ok : goal.returns-clause-ok
returns-clause-ok g c =
    let t = g.R.StoredRows.tables c.args.rows.now in
    on_ok_weaker c.apply.result
    (λ made. made ∙ ap (λ row. after_all (DropRow Versions row ∷ []) t) (to_z-of_z c.ranges.gone) ∙ drops_version_of t c.requires.sound c.args.bucket.now c.args.key.now c.args.id (Some c.args.gone) c.requires.gone)
    c.apply.ensures.ok
