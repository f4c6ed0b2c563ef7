use Rattle.std.proofs.Common.{◌≡◌, ap, ◌∙◌, [], ◌∷◌, to_z-of_z}
use Rattle.std.proofs.lemmas.Result.{on_ok_weaker}
use Rattle.s3_stored_rows.specs.declared.change.Change.TheVariants.{AddBucket, DropRow}
use Rattle.s3_stored_rows.specs.declared.rows.TableName.TheVariants.{Buckets}
use Rattle.s3_stored_rows.specs.Changes.{after_all}
use Rattle.s3_row_changes.proofs.ChangeLemmas.{puts_bucket}
use Rattle.s3_row_changes.proofs.buckets.replace_bucket.Goals as goal

pub returns-clause-ok : goal.returns-clause-ok
returns-clause-ok g c =
    let t = g.R.StoredRows.tables c.args.rows.now in
    let all : c.as_slice.result.now ≡ DropRow Buckets c.args.gone ∷ AddBucket c.args.bucket ∷ [] =
    c.as_slice.ensures.value ∙ c.in_ok-changes.ensures ∙ ap (λ row. DropRow Buckets row ∷ AddBucket c.args.bucket ∷ []) (to_z-of_z c.ranges.gone) in
    on_ok_weaker c.apply.result (λ made. made ∙ ap (λ changes. after_all changes t) all ∙ puts_bucket t c.requires.sound c.args.bucket c.args.gone c.requires.gone) c.apply.ensures.ok
