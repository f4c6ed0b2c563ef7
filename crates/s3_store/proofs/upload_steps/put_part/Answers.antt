use Rattle.std.proofs.Common.{sym, ◌∙◌}
use Rattle.s3_store.proofs.CallLemmas.{on_err, part_puts, part_unrefused, part_fails}
use Rattle.s3_store.proofs.upload_steps.put_part.Goals as goal

pub returns-in-Ok-true-clause-ok : goal.returns-in-Ok-true-clause-ok
returns-in-Ok-true-clause-ok g c =
    part_puts _ c.args.moment _ _ c.args.id c.args.part c.args.payload _ c.send_part.result _
    (sym c.in-Ok-true.ensures.value ∙ c.in-Ok-true.field-0-test) c.has_upload.ensures.same c.send_part.ensures.records c.send_part.ensures.outcome

pub returns-in-Ok-true-clause-memory : goal.returns-in-Ok-true-clause-memory
returns-in-Ok-true-clause-memory g c =
    on_err c.send_part.result (λ _. part_unrefused _ c.args.moment _ _ c.args.id c.args.part c.args.payload (sym c.in-Ok-true.ensures.value ∙ c.in-Ok-true.field-0-test))

pub returns-in-Ok-false-clause-ok : goal.returns-in-Ok-false-clause-ok
returns-in-Ok-false-clause-ok g c =
    part_fails _ c.args.moment _ _ c.args.id c.args.part c.args.payload _ c.refused.result (sym c.in-Ok-false.ensures.value ∙ c.in-Ok-false.field-0-test) c.has_upload.ensures.same c.refused.ensures

pub returns-in-Ok-true-clause-stays : goal.returns-in-Ok-true-clause-stays
returns-in-Ok-true-clause-stays g c = λ known is. c.send_part.ensures.stays known (c.has_upload.ensures.stays known is)
