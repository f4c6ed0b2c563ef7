use Rattle.std.proofs.Common.{[], refl}
use Rattle.s3_simulation.proofs.StepLemmas.{tried_none, tries_on}
use Rattle.s3_simulation.proofs.trial.Trial.new.Goals as goal

pub returns-clause-begins : goal.returns-clause-begins
returns-clause-begins c settings =
    let moments = c.args.moments.now in
    let tried = tried_none c.new.result settings moments (c.new.ensures.begins settings) in
    tries_on _ settings moments [] tried c.new.ensures.standing refl c.is_refused.result c.is_refused.ensures.over
    (c.is_refused.ensures.none settings moments [] tried)
