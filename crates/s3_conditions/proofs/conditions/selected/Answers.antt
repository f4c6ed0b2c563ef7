use Rattle.s3_conditions.proofs.ConditionLemmas.{satisfied_within}
use Rattle.s3_conditions.proofs.conditions.selected.Goals as goal

pub returns-in-Some-clause-within : goal.returns-in-Some-clause-within
returns-in-Some-clause-within c = rw c.satisfied.ensures (satisfied_within c.in-Some.range c.args.size)
