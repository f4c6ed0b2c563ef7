use Rattle.std.proofs.Common.{ap, ◌∙◌, [], ◌∷◌, to_z-of_z}
use Rattle.std.proofs.lemmas.Result.{on_ok_weaker}
use Rattle.s3_stored_rows.specs.declared.change.Change.TheVariants.{DropRow}
use Rattle.s3_stored_rows.specs.declared.rows.TableName.TheVariants.{Buckets}
use Rattle.s3_stored_rows.specs.Changes.{after_all}
use Rattle.s3_row_changes.proofs.ChangeLemmas.{drops_bucket}
use Rattle.s3_row_changes.proofs.buckets.drop_bucket.Goals as goal

pub returns-clause-ok : goal.returns-clause-ok
returns-clause-ok g c =
    let t = g.R.StoredRows.tables c.args.rows.now in
    on_ok_weaker c.apply.result
    (λ made. made ∙ ap (λ row. after_all (DropRow Buckets row ∷ []) t) (to_z-of_z c.ranges.gone) ∙ drops_bucket t c.requires.sound c.args.name.now c.args.gone c.requires.gone) c.apply.ensures.ok
