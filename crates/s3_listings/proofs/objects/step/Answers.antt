use Rattle.s3_records.specs.Rows.{key_rows}
use Rattle.s3_listings.proofs.PlaceLemmas.{rows_behind}
use Rattle.s3_listings.proofs.objects.step.Goals as goal

-- the rows are from a place on that is behind the start, where that is known
pub take_batch-requires-clause-behind : goal.take_batch-requires-clause-behind
take_batch-requires-clause-behind g c =
    rows_behind c.args.asked.now c.args.start c.are_behind_start-are_behind.result c.rows_at_once-most.result c.in-Ok.rows.items
    (key_rows (g.R.Records.catalogue c.args.records.now) c.args.bucket.now) c.are_behind_start-are_behind.ensures.all c.in-Ok.ensures.value
