use Rattle.s3_listings.proofs.SoughtLemmas.{rows_asked}
use Rattle.s3_listings.proofs.sought.rows_asked.Goals as goal

pub returns-clause-value : goal.returns-clause-value
returns-clause-value g c =
    let catalogue = g.R.Records.catalogue c.args.records.now in
    let wanted = c.args.wanted.now in
    rows_asked g.T.Listed.key wanted.marker.now (g.T.Listed.all catalogue c.args.bucket.now) (g.T.Listed.behind catalogue c.args.bucket.now wanted.marker.now wanted.id)
    (c.stand_by_key.ensures.behind catalogue c.args.bucket.now wanted.marker.now wanted.id)
    wanted.prefix.now c.args.most c.in_ok-rows.rows.items c.kept.result.items c.in_ok-rows.ensures.value c.kept.ensures
