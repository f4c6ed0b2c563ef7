use Rattle.s3_rule_laws.proofs.QueryLemmas.{spelled_targets_are_read}
use Rattle.s3_rule_laws.proofs.queries.targets_are_spelled.Goals as goal

pub returns : goal.returns
returns c = spelled_targets_are_read
