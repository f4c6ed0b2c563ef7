use Rattle.s3_rows.proofs.BucketLemmas.{rows_tell_buckets, rows_tell_emptiness}
use Rattle.s3_rows.proofs.ReadingLemmas.{rows_tell_facts, rows_list_buckets}
use Rattle.s3_rows.proofs.laws.rows_tell_buckets.Goals as goal

pub returns-clause-there : goal.returns-clause-there
returns-clause-there c = rows_tell_buckets

pub returns-clause-facts : goal.returns-clause-facts
returns-clause-facts c = rows_tell_facts

pub returns-clause-empty : goal.returns-clause-empty
returns-clause-empty c = rows_tell_emptiness

pub returns-clause-all : goal.returns-clause-all
returns-clause-all c = rows_list_buckets
