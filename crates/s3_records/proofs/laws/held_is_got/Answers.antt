use Rattle.s3_records.proofs.RowLemmas.{held_is_got}
use Rattle.s3_records.proofs.laws.held_is_got.Goals as goal

pub returns : goal.returns
returns g c = held_is_got
