use Rattle.s3_columns.proofs.PairLemmas.{pairs_again, pairs_back}
use Rattle.s3_columns.proofs.laws.pairs_are_read_again.Goals as goal

pub returns-clause-read : goal.returns-clause-read
returns-clause-read c = pairs_again

pub returns-clause-spelled : goal.returns-clause-spelled
returns-clause-spelled c = pairs_back
