use Rattle.std.proofs.Common.{◌∙◌, ap, take}
use Rattle.s3_listings.proofs.PlaceLemmas.{if_ok}
use Rattle.s3_listings.proofs.VersionLemmas.{from_place}
use Rattle.s3_listings.proofs.versions.VersionRowListed.rows_from.Goals as goal

pub returns-clause-value : goal.returns-clause-value
returns-clause-value g c =
    if_ok c.versions_from.result
    (λ rows is. is ∙ ap (take c.args.most) (from_place (g.R.Records.catalogue c.args.records.now) c.args.bucket.now c.args.start)) c.versions_from.ensures.value
