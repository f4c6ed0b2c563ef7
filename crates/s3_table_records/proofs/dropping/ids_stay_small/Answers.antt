use Rattle.std.proofs.Common.{◌≡◌, ap, subst, sym, ◌∙◌, ◌+◌, take}
use Rattle.std.proofs.lemmas.List.{take_all}
use Rattle.std.proofs.lemmas.List.Sums.{fold_more}
use Rattle.s3_stored_rows.specs.Changes.{changed_by, after_all}
use Rattle.s3_row_steps.specs.Steps.{HaveSmallIds}
use Rattle.s3_table_records.proofs.dropping.ids_stay_small.Goals as goal

pub loop-change-preserved : goal.loop-change-preserved
loop-change-preserved c = λ t small.
    let i = c.loop-change.change-index in
    let before = after_all (take i c.args.changes.now) t in
    let step : after_all (take (i + 1) c.args.changes.now) t ≡ changed_by c.change-item.result before =
    fold_more (λ now change. changed_by change now) t c.args.changes.now i c.change-item.result c.loop-change-test.true ∙ ap (λ change. changed_by change before) (sym c.change-item.is) in
    subst HaveSmallIds (sym step) (c.id_stays_small.ensures before (c.loop-change.invariant t small))

pub returns : goal.returns
returns c = λ t small.
    subst (λ changes. HaveSmallIds (after_all changes t)) (take_all c.loop-change.change-index c.args.changes.now c.loop-change-test.false) (c.loop-change.invariant t small)
