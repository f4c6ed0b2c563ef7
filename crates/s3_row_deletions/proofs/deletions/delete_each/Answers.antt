use Rattle.std.proofs.Common.{sym, ap, subst, ◌∙◌, ◌∷◌, ◌++◌, [], take}
use Rattle.std.proofs.lemmas.List.{take_more}
use Rattle.s3_row_deletions.specs.Steps.{AreSteps}
use Rattle.s3_row_deletions.proofs.deletions.delete_each.Goals as goal

-- one object more is deleted
pub loop-object-preserved : goal.loop-object-preserved
loop-object-preserved g c =
    let t = g.R.StoredRows.tables c.args.rows.now in
    let bucket = c.args.bucket.now in
    let e = c.args.entry.now in
    let objects = c.args.objects.now in
    let i = c.loop-object.object-index in
    let object = c.object-item.result in
    let so_far = take i objects in
    let same = c.loop-object.invariant.same in
    let more = ap (λ x. so_far ++ x ∷ []) c.object-item.is ∙ sym (take_more objects i object c.loop-object-test.true) in
    record {
      steps = subst (λ objects. AreSteps t bucket e objects c.delete.new.self) more
          (subst (λ t. AreSteps t bucket e (so_far ++ object ∷ []) c.delete.new.self) same
          (c.in_ok-delete.ensures.ok so_far (subst (λ t. AreSteps t bucket e so_far c.loop-object.all) (sym same) c.loop-object.invariant.steps)));
      same = c.delete.ensures.same ∙ same;
      stays = λ t left. c.loop-object.invariant.stays t (c.delete.ensures.stays t left);
    }
