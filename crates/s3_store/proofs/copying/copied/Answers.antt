use Rattle.std.proofs.Common.{ap, sym, ◌∙◌}
use Rattle.s3_store.specs.Steps.{data_found}
use Rattle.s3_store.proofs.SourceLemmas.{source_copied, copied_is_ok}
use Rattle.s3_store.proofs.copying.copied.Goals as goal

pub returns-in-Ok-clause-value : goal.returns-in-Ok-clause-value
returns-in-Ok-clause-value g c =
    c.data_found.ensures ∙ ap (data_found c.args.description) c.in-Ok.ensures.value
    ∙ sym (source_copied _ (record { source = c.args.source.now; description = c.args.description }))

pub returns-in-Err-clause-memory : goal.returns-in-Err-clause-memory
returns-in-Err-clause-memory g c = λ memory.
    copied_is_ok _ (record { source = c.args.source.now; description = c.args.description }) (c.in-Err.ensures.memory memory)
