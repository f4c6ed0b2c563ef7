use Rattle.s3_rule_laws.proofs.PreconditionLemmas.{if_match_decides, unmodified_since_decides, if_none_match_decides, modified_since_decides, range_decides}
use Rattle.s3_rule_laws.proofs.preconditions.preconditions_have_an_order.Goals as goal

pub returns-clause-if_match : goal.returns-clause-if_match
returns-clause-if_match c = if_match_decides

pub returns-clause-unmodified_since : goal.returns-clause-unmodified_since
returns-clause-unmodified_since c = unmodified_since_decides

pub returns-clause-if_none_match : goal.returns-clause-if_none_match
returns-clause-if_none_match c = if_none_match_decides

pub returns-clause-modified_since : goal.returns-clause-modified_since
returns-clause-modified_since c = modified_since_decides

pub returns-clause-range : goal.returns-clause-range
returns-clause-range c = range_decides
