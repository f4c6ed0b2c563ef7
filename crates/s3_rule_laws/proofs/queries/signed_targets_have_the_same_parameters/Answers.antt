use Rattle.s3_rule_laws.proofs.SignedTargetLemmas.{signed_targets_have_the_same_parameters}
use Rattle.s3_rule_laws.proofs.queries.signed_targets_have_the_same_parameters.Goals as goal

pub returns : goal.returns
returns c = signed_targets_have_the_same_parameters
