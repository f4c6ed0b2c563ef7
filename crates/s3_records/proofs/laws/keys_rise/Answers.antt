use Rattle.s3_records.proofs.RowLemmas.{keys_rise}
use Rattle.s3_records.proofs.laws.keys_rise.Goals as goal

pub returns : goal.returns
returns g c = keys_rise
