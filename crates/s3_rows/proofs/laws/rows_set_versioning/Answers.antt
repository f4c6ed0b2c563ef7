use Rattle.s3_rows.proofs.BucketLemmas.{rows_set_versioning}
use Rattle.s3_rows.proofs.laws.rows_set_versioning.Goals as goal

pub returns : goal.returns
returns c = rows_set_versioning
