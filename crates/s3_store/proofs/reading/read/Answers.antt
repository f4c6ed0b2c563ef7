use Rattle.std.proofs.Common.{ap, sym, ◌∙◌}
use Rattle.s3_versions.specs.Rules.{judged}
use Rattle.s3_store.proofs.StepLemmas.{told_of}
use Rattle.s3_store.proofs.reading.read.Goals as goal

pub returns-in-Ok : goal.returns-in-Ok
returns-in-Ok c =
    told_of c.args.versioning c.args.asked c.args.found _ c.told.result
    (ap (judged c.args.asked) (sym c.as_ref.ensures.value) ∙ c.in-Ok.ensures.value) c.told.ensures
