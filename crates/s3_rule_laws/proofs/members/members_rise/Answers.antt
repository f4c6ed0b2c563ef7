use Rattle.s3_rule_laws.proofs.MemberLemmas.{members_rise}
use Rattle.s3_rule_laws.proofs.members.members_rise.Goals as goal

pub returns : goal.returns
returns c = members_rise
