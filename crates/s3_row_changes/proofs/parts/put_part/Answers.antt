use Rattle.std.proofs.Common.{◌≡◌, ap, ◌∙◌, [], ◌∷◌, ◌++◌}
use Rattle.std.proofs.lemmas.Result.{on_ok_weaker}
use Rattle.s3_stored_rows.specs.declared.change.Change.TheVariants.{AddPart}
use Rattle.s3_stored_rows.specs.declared.rows.TableName.TheVariants.{Parts}
use Rattle.s3_stored_rows.specs.Changes.{after_all}
use Rattle.s3_row_changes.specs.Dropping.{drops_row}
use Rattle.s3_row_changes.proofs.ChangeLemmas.{puts_part}
use Rattle.s3_row_changes.proofs.parts.put_part.Goals as goal

pub returns-clause-ok : goal.returns-clause-ok
returns-clause-ok g c =
    let t = g.R.StoredRows.tables c.args.rows.now in
    let all : c.as_slice.result.now ≡ drops_row Parts c.args.gone ++ AddPart c.args.part ∷ [] = c.as_slice.ensures.value ∙ c.in_ok-changes.ensures in
    on_ok_weaker c.apply.result (λ made. made ∙ ap (λ changes. after_all changes t) all ∙ puts_part t c.requires.sound c.args.part c.args.gone c.requires.gone) c.apply.ensures.ok
