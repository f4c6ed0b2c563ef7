use Rattle.std.proofs.Common.{◌∙◌, arith, filter, subst}
use Rattle.s3_listings.specs.Sought.{begins_with}
use Rattle.s3_listings.specs.Taken.{AreEnough, left_at}
use Rattle.s3_listings.proofs.RollingLemmas.{all_taken, enough_taken, fewer_on, place_on, rows_begin, told_on}
use Rattle.s3_listings.proofs.sought.items_asked.Goals as goal

pub take_rows-requires : goal.take_rows-requires
take_rows-requires g c =
    let catalogue = g.R.Records.catalogue c.args.records.now in
    let wanted = c.args.wanted.now in
    let rolling = c.args.rolling.now in
    let behind = g.T.Listed.behind catalogue c.args.bucket.now wanted.marker.now wanted.id in
    let some : AreEnough g.T.Listed.key rolling.prefix rolling.delimiter c.args.most (left_at g.T.Listed.key (filter (begins_with g.T.Listed.key wanted.prefix.now) behind) c.loop-place.place) c.in_ok-rows.rows.items =
    subst (λ cat. AreEnough g.T.Listed.key rolling.prefix rolling.delimiter c.args.most
    (left_at g.T.Listed.key (filter (begins_with g.T.Listed.key wanted.prefix.now) (g.T.Listed.behind cat c.args.bucket.now wanted.marker.now wanted.id)) c.loop-place.place) c.in_ok-rows.rows.items)
    c.loop-place.invariant.same c.in_ok-rows.ensures.value in
    rows_begin g.T.Listed.key rolling.prefix rolling.delimiter wanted.marker.now wanted.prefix.now c.requires.rolling (g.T.Listed.all catalogue c.args.bucket.now) behind
    (c.stand_by_key.ensures.behind catalogue c.args.bucket.now wanted.marker.now wanted.id) c.args.most c.loop-place.place c.in_ok-rows.rows.items some

-- the last rows
pub returns-in_default-clause-value : goal.returns-in_default-clause-value
returns-in_default-clause-value g c =
    let catalogue = g.R.Records.catalogue c.args.records.now in
    let wanted = c.args.wanted.now in
    let rolling = c.args.rolling.now in
    let behind = g.T.Listed.behind catalogue c.args.bucket.now wanted.marker.now wanted.id in
    let some : AreEnough g.T.Listed.key rolling.prefix rolling.delimiter c.args.most (left_at g.T.Listed.key (filter (begins_with g.T.Listed.key wanted.prefix.now) behind) c.loop-place.place) c.in_ok-rows.rows.items =
    subst (λ cat. AreEnough g.T.Listed.key rolling.prefix rolling.delimiter c.args.most
    (left_at g.T.Listed.key (filter (begins_with g.T.Listed.key wanted.prefix.now) (g.T.Listed.behind cat c.args.bucket.now wanted.marker.now wanted.id)) c.loop-place.place) c.in_ok-rows.rows.items)
    c.loop-place.invariant.same c.in_ok-rows.ensures.value in
    all_taken g.T.Listed.key rolling.prefix rolling.delimiter wanted.marker.now wanted.prefix.now c.requires.rolling (g.T.Listed.all catalogue c.args.bucket.now) behind
    (c.stand_by_key.ensures.behind catalogue c.args.bucket.now wanted.marker.now wanted.id) c.args.most c.loop-place.place c.in_ok-rows.rows.items some
    c.loop-place.items.items c.take_rows.new.items.items c.in_ok-next.field-0 c.in_default.is c.loop-place.invariant.known c.in_ok-next.ensures

-- enough items
pub returns-then-len-most-clause-value : goal.returns-then-len-most-clause-value
returns-then-len-most-clause-value g c =
    let catalogue = g.R.Records.catalogue c.args.records.now in
    let wanted = c.args.wanted.now in
    let rolling = c.args.rolling.now in
    let behind = g.T.Listed.behind catalogue c.args.bucket.now wanted.marker.now wanted.id in
    let some : AreEnough g.T.Listed.key rolling.prefix rolling.delimiter c.args.most (left_at g.T.Listed.key (filter (begins_with g.T.Listed.key wanted.prefix.now) behind) c.loop-place.place) c.in_ok-rows.rows.items =
    subst (λ cat. AreEnough g.T.Listed.key rolling.prefix rolling.delimiter c.args.most
    (left_at g.T.Listed.key (filter (begins_with g.T.Listed.key wanted.prefix.now) (g.T.Listed.behind cat c.args.bucket.now wanted.marker.now wanted.id)) c.loop-place.place) c.in_ok-rows.rows.items)
    c.loop-place.invariant.same c.in_ok-rows.ensures.value in
    enough_taken g.T.Listed.key rolling.prefix rolling.delimiter wanted.marker.now wanted.prefix.now c.requires.rolling (g.T.Listed.all catalogue c.args.bucket.now) behind
    (c.stand_by_key.ensures.behind catalogue c.args.bucket.now wanted.marker.now wanted.id) c.args.most c.loop-place.place c.in_ok-rows.rows.items some
    c.loop-place.items.items c.take_rows.new.items.items c.in_ok-next.field-0 c.in-Some.next c.in-Some.is c.loop-place.invariant.known c.in_ok-next.ensures
    (omega (arith, rw c.len.ensures at c.if-len-most.true, c.take_rows.new.items.ok.0))

-- the list goes on
pub loop-place-smaller : goal.loop-place-smaller
loop-place-smaller g c =
    let catalogue = g.R.Records.catalogue c.args.records.now in
    let wanted = c.args.wanted.now in
    let rolling = c.args.rolling.now in
    let behind = g.T.Listed.behind catalogue c.args.bucket.now wanted.marker.now wanted.id in
    let some : AreEnough g.T.Listed.key rolling.prefix rolling.delimiter c.args.most (left_at g.T.Listed.key (filter (begins_with g.T.Listed.key wanted.prefix.now) behind) c.loop-place.place) c.in_ok-rows.rows.items =
    subst (λ cat. AreEnough g.T.Listed.key rolling.prefix rolling.delimiter c.args.most
    (left_at g.T.Listed.key (filter (begins_with g.T.Listed.key wanted.prefix.now) (g.T.Listed.behind cat c.args.bucket.now wanted.marker.now wanted.id)) c.loop-place.place) c.in_ok-rows.rows.items)
    c.loop-place.invariant.same c.in_ok-rows.ensures.value in
    fewer_on g.T.Listed.key rolling.prefix rolling.delimiter wanted.marker.now wanted.prefix.now c.requires.rolling (g.T.Listed.all catalogue c.args.bucket.now) behind
    (c.stand_by_key.ensures.behind catalogue c.args.bucket.now wanted.marker.now wanted.id) c.args.most c.loop-place.place c.in_ok-rows.rows.items some
    c.loop-place.items.items c.take_rows.new.items.items c.in_ok-next.field-0 c.in-Some.next c.in-Some.is c.loop-place.invariant.known c.in_ok-next.ensures

pub loop-place-preserved : goal.loop-place-preserved
loop-place-preserved g c =
    let catalogue = g.R.Records.catalogue c.args.records.now in
    let wanted = c.args.wanted.now in
    let rolling = c.args.rolling.now in
    let behind = g.T.Listed.behind catalogue c.args.bucket.now wanted.marker.now wanted.id in
    let some : AreEnough g.T.Listed.key rolling.prefix rolling.delimiter c.args.most (left_at g.T.Listed.key (filter (begins_with g.T.Listed.key wanted.prefix.now) behind) c.loop-place.place) c.in_ok-rows.rows.items =
    subst (λ cat. AreEnough g.T.Listed.key rolling.prefix rolling.delimiter c.args.most
    (left_at g.T.Listed.key (filter (begins_with g.T.Listed.key wanted.prefix.now) (g.T.Listed.behind cat c.args.bucket.now wanted.marker.now wanted.id)) c.loop-place.place) c.in_ok-rows.rows.items)
    c.loop-place.invariant.same c.in_ok-rows.ensures.value in
    record {
      same = c.enough_rows.ensures.same ∙ c.loop-place.invariant.same;
      stays = λ known is. c.enough_rows.ensures.stays known (c.loop-place.invariant.stays known is);
      place =
          place_on g.T.Listed.key rolling.prefix rolling.delimiter wanted.marker.now wanted.prefix.now c.requires.rolling (g.T.Listed.all catalogue c.args.bucket.now) behind
          (c.stand_by_key.ensures.behind catalogue c.args.bucket.now wanted.marker.now wanted.id) c.args.most c.loop-place.place c.in_ok-rows.rows.items some
          c.loop-place.items.items c.take_rows.new.items.items c.in_ok-next.field-0 c.in-Some.next c.in-Some.is c.loop-place.invariant.known c.in_ok-next.ensures;
      known =
          told_on g.T.Listed.key rolling.prefix rolling.delimiter wanted.marker.now wanted.prefix.now c.requires.rolling (g.T.Listed.all catalogue c.args.bucket.now) behind
          (c.stand_by_key.ensures.behind catalogue c.args.bucket.now wanted.marker.now wanted.id) c.args.most c.loop-place.place c.in_ok-rows.rows.items some
          c.loop-place.items.items c.take_rows.new.items.items c.in_ok-next.field-0 c.in-Some.next c.in-Some.is c.loop-place.invariant.known c.in_ok-next.ensures;
    }

pub returns-in_err-rows-clause-same : goal.returns-in_err-rows-clause-same
returns-in_err-rows-clause-same g c = c.enough_rows.ensures.same ∙ c.loop-place.invariant.same

pub returns-in_err-rows-clause-stays : goal.returns-in_err-rows-clause-stays
returns-in_err-rows-clause-stays g c = λ known is. c.enough_rows.ensures.stays known (c.loop-place.invariant.stays known is)

pub returns-in_err-next-clause-same : goal.returns-in_err-next-clause-same
returns-in_err-next-clause-same g c = c.enough_rows.ensures.same ∙ c.loop-place.invariant.same

pub returns-in_err-next-clause-stays : goal.returns-in_err-next-clause-stays
returns-in_err-next-clause-stays g c = λ known is. c.enough_rows.ensures.stays known (c.loop-place.invariant.stays known is)

pub returns-in_default-clause-same : goal.returns-in_default-clause-same
returns-in_default-clause-same g c = c.enough_rows.ensures.same ∙ c.loop-place.invariant.same

pub returns-in_default-clause-stays : goal.returns-in_default-clause-stays
returns-in_default-clause-stays g c = λ known is. c.enough_rows.ensures.stays known (c.loop-place.invariant.stays known is)

pub returns-then-len-most-clause-same : goal.returns-then-len-most-clause-same
returns-then-len-most-clause-same g c = c.enough_rows.ensures.same ∙ c.loop-place.invariant.same

pub returns-then-len-most-clause-stays : goal.returns-then-len-most-clause-stays
returns-then-len-most-clause-stays g c = λ known is. c.enough_rows.ensures.stays known (c.loop-place.invariant.stays known is)
