use Rattle.s3_rule_laws.proofs.RangeLemmas.{preconditions_come_first, outside_is_last, parts_are_last}
use Rattle.s3_rule_laws.proofs.ranges.ranges_come_last.Goals as goal

pub returns-clause-preconditions : goal.returns-clause-preconditions
returns-clause-preconditions c = preconditions_come_first

pub returns-clause-outside : goal.returns-clause-outside
returns-clause-outside c = outside_is_last

pub returns-clause-parts : goal.returns-clause-parts
returns-clause-parts c = parts_are_last
