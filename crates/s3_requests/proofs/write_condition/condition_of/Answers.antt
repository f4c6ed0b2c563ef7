use Rattle.s3_requests.specs.WriteCondition.{condition_of}
use Rattle.s3_requests.proofs.write_condition.condition_of.Goals as goal

pub returns : goal.returns
unfolding condition_of
returns c = rw (← c.first.ensures, ← c.tags_wanted.ensures) c.condition_said.ensures
