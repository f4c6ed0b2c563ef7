use Rattle.s3_conditions.proofs.ConditionLemmas as lemmas
use Rattle.s3_conditions.proofs.laws.parts_are_what_is_asked.Goals as goal

pub returns : goal.returns
returns c = lemmas.parts_are_what_is_asked
