use Rattle.std.proofs.Common.{sym, ◌∙◌}
use Rattle.s3_store.proofs.StepLemmas.{match_barred}
use Rattle.s3_store.proofs.CallLemmas.{then_steps, then_accepted, may_enter, match_deletes}
use Rattle.s3_store.proofs.key_steps.delete_matching.Goals as goal

pub delete_key-requires : goal.delete_key-requires
delete_key-requires g c = may_enter _ _ c.args.number _ c.args.versioning c.bar_by_tags.ensures.same c.requires

pub returns-in-Ok-None-clause-ok : goal.returns-in-Ok-None-clause-ok
returns-in-Ok-None-clause-ok g c =
    then_steps c.delete_key.result _ _ _
    (match_deletes _ _ c.args.number c.args.moment _ c.args.key c.args.tags c.bar_by_tags.ensures.same
    (sym c.in-Ok-None.ensures.value ∙ c.in-Ok-None.field-0-is)) c.delete_key.ensures.ok

pub returns-in-Ok-None-clause-memory : goal.returns-in-Ok-None-clause-memory
returns-in-Ok-None-clause-memory g c =
    then_accepted _ c.delete_key.result _ _
    (match_deletes _ _ c.args.number c.args.moment _ c.args.key c.args.tags c.bar_by_tags.ensures.same
    (sym c.in-Ok-None.ensures.value ∙ c.in-Ok-None.field-0-is)) c.delete_key.ensures.memory

pub returns-in-Ok-Some-clause-ok : goal.returns-in-Ok-Some-clause-ok
returns-in-Ok-Some-clause-ok g c =
    let step = match_barred _ c.args.number c.args.moment _ c.args.key c.args.tags c.in-Ok-Some.code (sym c.in-Ok-Some.ensures.value ∙ c.in-Ok-Some.field-0-is) in
    cc (c.bar_by_tags.ensures.same, c.refused.ensures)
