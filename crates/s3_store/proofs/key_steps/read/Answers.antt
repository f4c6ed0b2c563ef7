use Rattle.std.proofs.Common.{◌∙◌}
use Rattle.s3_store.proofs.CallLemmas.{on_err, read_told, read_fails, read_unrefused}
use Rattle.s3_store.proofs.key_steps.read.Goals as goal

-- what is known of the version chooses what is shown of it
pub returns-in_ok-read-in-Ok-clause-ok : goal.returns-in_ok-read-in-Ok-clause-ok
returns-in_ok-read-in-Ok-clause-ok g c =
    read_told _ _ _ _ c.args.asked _ c.selected.result
    (record { told = c.in_ok-facts.ensures.value; is = c.selected.ensures; same = c.facts.ensures.same })
    _ c.args.versioning c.in-Ok.selection _ c.got.result c.in-Ok.is c.requires c.in_ok-read-in-Ok.ensures.value c.look.ensures.same c.got.ensures

pub returns-in_err-read-in-Ok-clause-memory : goal.returns-in_err-read-in-Ok-clause-memory
returns-in_err-read-in-Ok-clause-memory g c =
    on_err c.from_residual-in_err-read-in-Ok.result (λ _. read_unrefused _ _ _ _ c.args.asked _ c.selected.result
    (record { told = c.in_ok-facts.ensures.value; is = c.selected.ensures; same = c.facts.ensures.same }) c.in-Ok.selection c.in-Ok.is)

pub returns-in-Err-clause-ok : goal.returns-in-Err-clause-ok
returns-in-Err-clause-ok g c =
    read_fails _ _ _ _ c.args.asked _ c.selected.result
    (record { told = c.in_ok-facts.ensures.value; is = c.selected.ensures; same = c.facts.ensures.same })
    c.in-Err.outcome c.in-Err.is

pub returns-in_err-read-in-Ok-clause-same : goal.returns-in_err-read-in-Ok-clause-same
returns-in_err-read-in-Ok-clause-same g c = c.look.ensures.same ∙ c.facts.ensures.same

pub returns-in_ok-read-in-Ok-clause-same : goal.returns-in_ok-read-in-Ok-clause-same
returns-in_ok-read-in-Ok-clause-same g c = c.look.ensures.same ∙ c.facts.ensures.same

pub returns-in_err-read-in-Ok-clause-stays : goal.returns-in_err-read-in-Ok-clause-stays
returns-in_err-read-in-Ok-clause-stays g c = λ known is. c.look.ensures.stays known (c.facts.ensures.stays known is)

pub returns-in_ok-read-in-Ok-clause-stays : goal.returns-in_ok-read-in-Ok-clause-stays
returns-in_ok-read-in-Ok-clause-stays g c = λ known is. c.look.ensures.stays known (c.facts.ensures.stays known is)
