use Rattle.s3_columns.proofs.NumberLemmas.{numbers_again}
use Rattle.s3_columns.proofs.laws.numbers_are_found.Goals as goal

pub returns : goal.returns
returns c = numbers_again
