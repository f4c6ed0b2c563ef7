use Rattle.std.proofs.Common.{refl}
use Rattle.s3_requests.proofs.read_conditions.conditions_of.Goals as goal

pub returns-clause-value : goal.returns-clause-value
returns-clause-value c = rw (c.in_ok-if_match.ensures.value, c.in_ok-if_none_match.ensures.value, c.date_of.ensures, c.date_of-2.ensures, c.range_of.ensures) refl
