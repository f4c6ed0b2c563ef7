use Rattle.s3_rows.proofs.BucketLemmas.{rows_add_buckets}
use Rattle.s3_rows.proofs.laws.rows_add_buckets.Goals as goal

pub returns : goal.returns
returns c = rows_add_buckets
