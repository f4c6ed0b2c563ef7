use Rattle.std.proofs.Common.{subst, SFits, w64, to_z-of_z, rules}
use Rattle.s3_row_deletions.specs.Steps.{IsStepAfter}
use Rattle.s3_row_deletions.proofs.StepsLemmas.{steps_more, on_ok}
use Rattle.s3_row_deletions.proofs.deletions.Deletions.delete.Goals as goal

pub returns-clause-ok : goal.returns-clause-ok
returns-clause-ok g c =
    let t = g.R.StoredRows.tables c.args.rows.now in
    let bucket = c.args.bucket.now in
    let e = c.args.entry.now in
    let object = c.args.object.now in
    let step = c.in_ok-step.step in
    let fits : SFits w64 c.args.self.now.next = search rules in
    let is =
    subst (λ changes. IsStepAfter t changes bucket e c.args.self.now.next object step) c.as_slice.ensures.value
    (subst (λ next. IsStepAfter t c.as_slice.result.now bucket e next object step) (to_z-of_z fits) c.in_ok-step.ensures.value) in
    on_ok c.add.result
    (λ added objects so_far. steps_more t bucket e objects object c.args.self.now c.add.new.self step so_far (is so_far.may_come so_far.ready) added)
    c.add.ensures
