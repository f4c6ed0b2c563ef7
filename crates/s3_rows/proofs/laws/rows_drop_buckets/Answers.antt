use Rattle.s3_rows.proofs.BucketLemmas.{rows_drop_buckets}
use Rattle.s3_rows.proofs.laws.rows_drop_buckets.Goals as goal

pub returns : goal.returns
returns c = rows_drop_buckets
