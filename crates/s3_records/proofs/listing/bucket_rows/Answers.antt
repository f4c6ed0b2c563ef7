use Rattle.s3_records.specs.Catalogue.{listed_bucket}
use Rattle.s3_records.proofs.ListLemmas.{one_left, row_added}
use Rattle.s3_records.proofs.listing.bucket_rows.Goals as goal

pub loop-name-preserved : goal.loop-name-preserved
loop-name-preserved c =
    row_added listed_bucket c.loop-name.rows.items c.push.new.rows.items _ (c.in-Some.name.now, c.in-Some.bucket.now) c.loop-name.name-iterator c.next.new.self c.loop-name.invariant c.in-Some.ensures.steps
    (c.in-Ok.ensures.ok (listed_bucket (c.in-Some.name.now, c.in-Some.bucket.now)) c.listed_bucket.ensures)

pub returns-in-Err-clause-memory : goal.returns-in-Err-clause-memory
returns-in-Err-clause-memory c =
    one_left listed_bucket c.loop-name.rows.items _ (c.in-Some.name.now, c.in-Some.bucket.now) c.loop-name.name-iterator c.next.new.self c.loop-name.invariant c.in-Some.ensures.steps
