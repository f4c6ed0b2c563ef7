use Rattle.std.proofs.Common.{ap, sym, ◌∙◌}
use Rattle.std.specs.Prelude.{is_ok}
use Rattle.s3_store.proofs.CallLemmas.{on_err, then_steps, may_enter, copy_unrefused, copy_fails, copy_puts, copy_has_bytes}
use Rattle.s3_store.proofs.copying.copy_from.Goals as goal

pub returns-in_err-refusal-clause-memory : goal.returns-in_err-refusal-clause-memory
returns-in_err-refusal-clause-memory g c =
    on_err c.from_residual.result
    (λ memory. copy_unrefused _ c.args.number c.args.moment _ c.args.key (record { source = c.args.source.now; description = c.args.description }) (c.in_err-refusal.ensures.memory memory))

pub returns-in-Err-clause-ok : goal.returns-in-Err-clause-ok
returns-in-Err-clause-ok g c =
    copy_fails _ c.args.number c.args.moment _ c.args.key (record { source = c.args.source.now; description = c.args.description }) _ _ c.in-Err.refusal c.refused_with.result
    c.in_ok-refusal.ensures.value c.in-Err.is c.copied.ensures.same c.refused_with.ensures

pub put_copy-requires-clause-enters : goal.put_copy-requires-clause-enters
put_copy-requires-clause-enters g c = may_enter _ _ c.args.number _ c.args.versioning c.copied.ensures.same c.requires

pub put_copy-requires-clause-copied : goal.put_copy-requires-clause-copied
put_copy-requires-clause-copied g c =
    copy_has_bytes _ (record { source = c.args.source.now; description = c.args.description }) _ _ c.in-Ok.stored c.in_ok-refusal.ensures.value c.in-Ok.is c.copied.ensures.same

pub returns-in-Ok-clause-ok : goal.returns-in-Ok-clause-ok
returns-in-Ok-clause-ok g c =
    then_steps c.put_copy.result _ _ _
    (copy_puts _ c.args.number c.args.moment _ c.args.key (record { source = c.args.source.now; description = c.args.description }) _ _ c.in-Ok.stored c.in_ok-refusal.ensures.value c.in-Ok.is c.copied.ensures.same) c.put_copy.ensures.ok

pub returns-in-Ok-clause-memory : goal.returns-in-Ok-clause-memory
returns-in-Ok-clause-memory g c =
    on_err c.put_copy.result
    (λ _. copy_unrefused _ c.args.number c.args.moment _ c.args.key (record { source = c.args.source.now; description = c.args.description }) (ap is_ok (sym c.in_ok-refusal.ensures.value ∙ c.in-Ok.is)))
