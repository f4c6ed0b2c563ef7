use Rattle.std.proofs.Common.{ap, sym, ◌∙◌}
use Rattle.s3_machine.specs.Step.{data_of}
use Rattle.s3_store.specs.Steps.{put_step}
use Rattle.s3_store.proofs.StepLemmas.{put_stored, put_accepted, put_barred}
use Rattle.s3_store.proofs.CallLemmas.{on_err, then_steps, may_enter}
use Rattle.s3_store.proofs.key_steps.put.Goals as goal

pub store-requires : goal.store-requires
store-requires g c = may_enter _ _ c.args.number _ c.args.versioning c.bar.ensures.same c.requires

pub returns-in-Ok-None-clause-ok : goal.returns-in-Ok-None-clause-ok
returns-in-Ok-None-clause-ok g c =
    then_steps c.store.result _ _ _
    (put_stored _ c.args.number c.args.moment _ c.args.key c.args.asked (sym c.in-Ok-None.ensures.value ∙ c.in-Ok-None.field-0-is)
    ∙ ap (λ s. put_step s c.args.number c.args.moment c.args.bucket.now c.args.key (data_of c.args.asked)) (sym c.bar.ensures.same)) c.store.ensures.ok

pub returns-in-Ok-None-clause-memory : goal.returns-in-Ok-None-clause-memory
returns-in-Ok-None-clause-memory g c =
    on_err c.store.result (λ _. put_accepted _ c.args.number c.args.moment _ c.args.key c.args.asked (sym c.in-Ok-None.ensures.value ∙ c.in-Ok-None.field-0-is))

pub returns-in-Ok-Some-clause-ok : goal.returns-in-Ok-Some-clause-ok
returns-in-Ok-Some-clause-ok g c =
    let step = put_barred _ c.args.number c.args.moment _ c.args.key c.args.asked c.in-Ok-Some.code (sym c.in-Ok-Some.ensures.value ∙ c.in-Ok-Some.field-0-is) in
    cc (c.bar.ensures.same, c.refused.ensures)

pub returns-in-Ok-None-clause-stays : goal.returns-in-Ok-None-clause-stays
returns-in-Ok-None-clause-stays g c = λ known is. c.store.ensures.stays known (c.bar.ensures.stays known is)
