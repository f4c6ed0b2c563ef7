use Rattle.std.proofs.Common.{sym, ◌∙◌}
use Rattle.s3_store.proofs.CallLemmas.{then_steps, then_accepted, may_enter, joins, completion_fails}
use Rattle.s3_store.proofs.completing.complete.Goals as goal

pub join-requires : goal.join-requires
join-requires g c = may_enter _ _ c.args.number _ c.args.versioning c.bar.ensures.same c.requires

pub returns-in-Ok-None-clause-ok : goal.returns-in-Ok-None-clause-ok
returns-in-Ok-None-clause-ok g c =
    then_steps c.join.result _ _ _
    (joins c.args.rules.now _ _ c.args.number c.args.moment _ c.args.key c.args.id c.args.listed.now c.args.condition.now c.bar.ensures.same
    (sym c.in-Ok-None.ensures.value ∙ c.in-Ok-None.field-0-is)) c.join.ensures.ok

pub returns-in-Ok-None-clause-memory : goal.returns-in-Ok-None-clause-memory
returns-in-Ok-None-clause-memory g c =
    then_accepted _ c.join.result _ _
    (joins c.args.rules.now _ _ c.args.number c.args.moment _ c.args.key c.args.id c.args.listed.now c.args.condition.now c.bar.ensures.same
    (sym c.in-Ok-None.ensures.value ∙ c.in-Ok-None.field-0-is)) c.join.ensures.memory

pub returns-in-Ok-Some-clause-ok : goal.returns-in-Ok-Some-clause-ok
returns-in-Ok-Some-clause-ok g c =
    completion_fails c.args.rules.now _ _ c.args.number c.args.moment _ c.args.key c.args.id c.args.listed.now c.args.condition.now c.bar.ensures.same
    c.refuse_barred.result _ c.in-Ok-Some.code (sym c.in-Ok-Some.ensures.value ∙ c.in-Ok-Some.field-0-is) c.refuse_barred.ensures.same c.refuse_barred.ensures.ok

pub returns-in-Ok-None-clause-stays : goal.returns-in-Ok-None-clause-stays
returns-in-Ok-None-clause-stays g c = λ known is. c.join.ensures.stays known (c.bar.ensures.stays known is)
