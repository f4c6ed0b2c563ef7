use Rattle.s3_requests.proofs.TokenLemmas.{tokens_are_read_back}
use Rattle.s3_requests.proofs.laws.tokens_are_read_back.Goals as goal

pub returns : goal.returns
returns c = tokens_are_read_back
