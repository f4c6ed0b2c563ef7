use Rattle.s3_conditions.proofs.ConditionLemmas as lemmas
use Rattle.s3_conditions.proofs.laws.parts_lie_in_the_object.Goals as goal

pub returns : goal.returns
returns c = lemmas.parts_lie_in_the_object
