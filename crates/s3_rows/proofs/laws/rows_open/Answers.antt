use Rattle.s3_rows.proofs.BucketLemmas.{rows_open}
use Rattle.s3_rows.proofs.laws.rows_open.Goals as goal

pub returns : goal.returns
returns c = rows_open
