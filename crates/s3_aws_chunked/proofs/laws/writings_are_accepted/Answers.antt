use Rattle.s3_aws_chunked.proofs.AcceptLemmas.{accepted_judged, written_accepted, written_one}
use Rattle.s3_aws_chunked.proofs.laws.writings_are_accepted.Goals as goal

pub returns-clause-bodies : goal.returns-clause-bodies
returns-clause-bodies c = accepted_judged

pub returns-clause-writings : goal.returns-clause-writings
returns-clause-writings c = λ seed bytes size text ended writes. accepted_judged _ text bytes ended (written_accepted seed bytes size text writes)

pub returns-clause-one : goal.returns-clause-one
returns-clause-one c = written_one
