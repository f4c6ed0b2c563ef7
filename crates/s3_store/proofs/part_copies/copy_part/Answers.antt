use Rattle.std.proofs.Common.{ap, sym, ◌∙◌}
use Rattle.std.specs.Prelude.{is_ok}
use Rattle.s3_store.proofs.CallLemmas.{on_err, part_copy_unrefused, part_copy_fails, part_copy_puts, part_copy_open}
use Rattle.s3_store.proofs.part_copies.copy_part.Goals as goal

pub returns-in_err-refusal-clause-memory : goal.returns-in_err-refusal-clause-memory
returns-in_err-refusal-clause-memory g c =
    on_err c.from_residual.result
    (λ memory. part_copy_unrefused _ c.args.moment _ _ c.args.id c.args.part c.args.copy (c.in_err-refusal.ensures.memory memory))

pub returns-in-Err-clause-ok : goal.returns-in-Err-clause-ok
returns-in-Err-clause-ok g c =
    part_copy_fails _ c.args.moment _ _ c.args.id c.args.part c.args.copy _ _ c.in-Err.refusal c.refused_with.result
    c.in_ok-refusal.ensures.value c.in-Err.is c.find_for_part-found.ensures.same c.refused_with.ensures

pub put_found-requires-clause-is_open : goal.put_found-requires-clause-is_open
put_found-requires-clause-is_open g c =
    part_copy_open _ c.args.moment _ _ c.args.id c.args.part c.args.copy _ _ c.in-Ok.found c.in_ok-refusal.ensures.value c.in-Ok.is
    c.find_for_part-found.ensures.same

pub returns-in-Ok-clause-ok : goal.returns-in-Ok-clause-ok
returns-in-Ok-clause-ok g c =
    part_copy_puts _ c.args.moment _ _ c.args.id c.args.part c.args.copy _ _ c.in-Ok.found c.put_found.result _
    c.in_ok-refusal.ensures.value c.in-Ok.is c.find_for_part-found.ensures.same c.put_found.ensures.ok

pub returns-in-Ok-clause-memory : goal.returns-in-Ok-clause-memory
returns-in-Ok-clause-memory g c =
    on_err c.put_found.result
    (λ _. part_copy_unrefused _ c.args.moment _ _ c.args.id c.args.part c.args.copy (ap is_ok (sym c.in_ok-refusal.ensures.value ∙ c.in-Ok.is)))
