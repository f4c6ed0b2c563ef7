use Rattle.std.proofs.Common.{◌≡◌, sym, ap, subst, ◌∙◌, filter, take}
use Rattle.s3_listings.specs.Sought.{begins_with}
use Rattle.s3_listings.specs.Taken.{IsPlace, left_at}
use Rattle.s3_listings.specs.declared.rolled.Place.TheVariants.{Beyond}
use Rattle.s3_listings.proofs.PlaceLemmas.{if_ok}
use Rattle.s3_listings.proofs.RolledLemmas.{beyond_left}
use Rattle.s3_listings.proofs.sought.rows_at.Goals as goal

pub returns-in_ok-start-in-Beyond-clause-value : goal.returns-in_ok-start-in-Beyond-clause-value
returns-in_ok-start-in-Beyond-clause-value g c =
    let catalogue = g.R.Records.catalogue c.args.records.now in
    let wanted = c.args.wanted.now in
    let all = g.T.Listed.all catalogue c.args.bucket.now in
    let behind = g.T.Listed.behind catalogue c.args.bucket.now wanted.marker.now wanted.id in
    let is_place : IsPlace wanted.prefix.now wanted.marker.now (Beyond c.in-Beyond.start c.in-Beyond.text) = subst (IsPlace wanted.prefix.now wanted.marker.now) c.in-Beyond.is c.requires.place in
    if_ok c.rows_beyond.result
    (λ rows is.
    is
    ∙ ap (take c.args.most)
    (beyond_left g.T.Listed.key all behind wanted.marker.now wanted.prefix.now c.in-Beyond.text.items (c.stand_by_key.ensures.behind catalogue c.args.bucket.now wanted.marker.now wanted.id) is_place.1)
    ∙ ap (λ place. take c.args.most (left_at g.T.Listed.key (filter (begins_with g.T.Listed.key wanted.prefix.now) behind) place)) (sym c.in-Beyond.is))
    (rw c.deref.ensures.value at c.rows_beyond.ensures.value)
