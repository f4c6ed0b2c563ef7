use Rattle.std.proofs.Common.{◌≡◌, subst, IfSome}
use Rattle.s3_listings.proofs.PlaceLemmas.{if_ok}
use Rattle.s3_listings.proofs.SoughtLemmas.{if_ok_both, by_prefix, by_key, by_no_key}
use Rattle.s3_listings.proofs.sought.rows_sought.Goals as goal

pub returns-then-is_before-clause-value : goal.returns-then-is_before-clause-value
returns-then-is_before-clause-value g c =
    let catalogue = g.R.Records.catalogue c.args.records.now in
    let wanted = c.args.wanted.now in
    let all = g.T.Listed.all catalogue c.args.bucket.now in
    let behind = g.T.Listed.behind catalogue c.args.bucket.now wanted.marker.now wanted.id in
    if_ok c.rows_at_least.result (λ rows is.
    by_prefix g.T.Listed.key wanted.marker.now all behind (c.stand_by_key.ensures.behind catalogue c.args.bucket.now wanted.marker.now wanted.id)
    wanted.prefix.now c.args.most c.is_before.result c.is_before.ensures rows.items c.if-is_before.true is) c.rows_at_least.ensures.value

pub returns-in-Some-clause-value : goal.returns-in-Some-clause-value
returns-in-Some-clause-value g c =
    let catalogue = g.R.Records.catalogue c.args.records.now in
    let wanted = c.args.wanted.now in
    let all = g.T.Listed.all catalogue c.args.bucket.now in
    let behind = g.T.Listed.behind catalogue c.args.bucket.now wanted.marker.now wanted.id in
    let same : c.in-Some.marker ≡ wanted.marker.now = subst (λ o. IfSome o (λ k. k ≡ wanted.marker.now)) c.in-Some.is c.in_ok-marker.ensures.value in
    if_ok c.rows_behind.result (λ rows is.
    by_key g.T.Listed.key wanted.marker.now all behind (c.stand_by_key.ensures.behind catalogue c.args.bucket.now wanted.marker.now wanted.id)
    wanted.prefix.now c.args.most c.is_before.result c.is_before.ensures rows.items c.if-is_before.false
    (rw same at is)) c.rows_behind.ensures.value

pub returns-in-None-clause-value : goal.returns-in-None-clause-value
returns-in-None-clause-value g c =
    let catalogue = g.R.Records.catalogue c.args.records.now in
    let wanted = c.args.wanted.now in
    let all = g.T.Listed.all catalogue c.args.bucket.now in
    let behind = g.T.Listed.behind catalogue c.args.bucket.now wanted.marker.now wanted.id in
    if_ok_both c.rows_from_no_key.result c.rows_from_no_key.ensures.value c.rows_from_no_key.ensures.free (λ rows is first.
    by_no_key g.T.Listed.key wanted.marker.now all behind (c.stand_by_key.ensures.behind catalogue c.args.bucket.now wanted.marker.now wanted.id)
    wanted.prefix.now c.args.most c.is_before.result c.is_before.ensures rows.items (c.stand_by_key.ensures.order catalogue c.args.bucket.now) c.requires c.if-is_before.false is first)
