use Rattle.std.proofs.Common.{ap, sym, ◌∙◌}
use Rattle.s3_store.specs.Steps.{source_judged}
use Rattle.s3_store.proofs.SourceLemmas.{source_refused}
use Rattle.s3_store.proofs.sources.find_in_bucket.Goals as goal

pub returns-in-Err-clause-value : goal.returns-in-Err-clause-value
returns-in-Err-clause-value g c =
    sym (source_refused _ c.args.source.now c.args.range c.in-Err.refusal c.requires.there
    (ap (source_judged c.args.source.now.conditions c.args.range) (sym c.in_ok-facts.ensures.value) ∙ sym c.source_judged.ensures ∙ c.in-Err.is))

pub returns-in-Ok-clause-same : goal.returns-in-Ok-clause-same
returns-in-Ok-clause-same g c = c.look.ensures.same ∙ c.facts.ensures.same

pub returns-in-Ok-clause-stays : goal.returns-in-Ok-clause-stays
returns-in-Ok-clause-stays g c = λ known is. c.look.ensures.stays known (c.facts.ensures.stays known is)
