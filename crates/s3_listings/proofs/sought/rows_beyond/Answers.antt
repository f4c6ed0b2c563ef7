use Rattle.s3_listings.proofs.RolledLemmas.{beyond_asked}
use Rattle.s3_listings.proofs.sought.rows_beyond.Goals as goal

pub returns-clause-value : goal.returns-clause-value
returns-clause-value g c =
    let catalogue = g.R.Records.catalogue c.args.records.now in
    beyond_asked g.T.Listed.key (g.T.Listed.all catalogue c.args.bucket.now) c.args.prefix.now c.args.text.now c.args.most c.in_ok-rows.rows.items c.kept.result.items
    (c.stand_by_key.ensures.order catalogue c.args.bucket.now) c.requires.behind c.in_ok-rows.ensures.value c.kept.ensures
