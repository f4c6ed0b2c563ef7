use Rattle.std.proofs.Common.{ap, ◌∙◌, take_all}
use Rattle.s3_stored_rows.specs.Changes.{after_all}
use Rattle.s3_stored_rows.proofs.CopyLemmas.{copied_more}
use Rattle.s3_stored_rows.proofs.copying.copied_changes.Goals as goal

pub loop-change-init : goal.loop-change-init
loop-change-init c = record { same = λ t. ap (λ l. after_all l t) c.in_ok-copies.ensures.items }

pub loop-change-preserved : goal.loop-change-preserved
loop-change-preserved c = record {
  same = copied_more c.args.changes.now c.loop-change.copies.items c.push.new.self.items c.loop-change.change-index c.change-item.result c.in_ok-copy.copy c.loop-change-test.true c.change-item.is
      c.in_ok-push.ensures.items c.in_ok-copy.ensures c.loop-change.invariant.same;
}

pub returns : goal.returns
returns c = λ t. c.loop-change.invariant.same t ∙ ap (λ l. after_all l t) (take_all c.loop-change.change-index c.args.changes.now c.loop-change-test.false)
