use Rattle.std.proofs.Common.{◌∙◌}
use Rattle.s3_listings.proofs.RolledLemmas.{begin_at}
use Rattle.s3_listings.proofs.sought.enough_rows.Goals as goal

pub have_prefix-requires : goal.have_prefix-requires
have_prefix-requires g c =
    let wanted = c.args.wanted.now in
    begin_at g.T.Listed.key wanted.prefix.now c.args.rolling.now.delimiter wanted.marker.now
    (g.T.Listed.behind (g.R.Records.catalogue c.args.records.now) c.args.bucket.now wanted.marker.now wanted.id) c.args.place.now c.in_ok-rows.rows.items c.deref.result.now c.min-few.result
    c.args.rolling.now.prefix c.requires.rolling c.deref.ensures.value c.in_ok-rows.ensures.value

-- more rows are asked for
pub returns-clause-same : goal.returns-clause-same
returns-clause-same g c = c.rows_at-2.ensures.same ∙ c.rows_at.ensures.same

pub returns-clause-stays : goal.returns-clause-stays
returns-clause-stays g c = λ known is. c.rows_at-2.ensures.stays known (c.rows_at.ensures.stays known is)
