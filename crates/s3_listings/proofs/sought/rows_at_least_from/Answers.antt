use Rattle.std.proofs.Common.{sym, ap, subst, ◌∙◌, ◌<◌, length}
use Rattle.s3_records.specs.declared.rows.Start.TheVariants.{Behind}
use Rattle.s3_listings.specs.Sought.{rows_from}
use Rattle.s3_listings.proofs.SoughtLemmas.{loop_ends, fewer_left, taken_before, covers_behind}
use Rattle.s3_listings.proofs.sought.rows_at_least_from.Goals as goal

pub returns-in-None-clause-value : goal.returns-in-None-clause-value
returns-in-None-clause-value g c =
    loop_ends g.T.Listed.key (g.T.Listed.all (g.R.Records.catalogue c.loop-rows.records) c.args.bucket.now) (g.T.Listed.all (g.R.Records.catalogue c.args.records.now) c.args.bucket.now)
    c.loop-rows.start c.args.text.now c.args.most c.in_ok-rows.rows.items c.take_key_before.new.rows.items
    (c.stand_by_key.ensures.order (g.R.Records.catalogue c.loop-rows.records) c.args.bucket.now) c.requires.some c.loop-rows.invariant.covers c.in_ok-rows.ensures.value
    (c.take_key_before.ensures.none c.in-None.is) (c.take_key_before.ensures.same c.in-None.is)
    (ap (λ d. g.T.Listed.all d c.args.bucket.now) c.loop-rows.invariant.same)

pub loop-rows-smaller : goal.loop-rows-smaller
loop-rows-smaller g c =
    let all = g.T.Listed.all (g.R.Records.catalogue c.loop-rows.records) c.args.bucket.now in
    subst (λ d. length (rows_from g.T.Listed.key (Behind c.in-Some.key) (g.T.Listed.all d c.args.bucket.now)) < length (rows_from g.T.Listed.key c.loop-rows.start all)) (sym c.rows_from.ensures.same)
    (fewer_left g.T.Listed.key all c.loop-rows.start c.args.most c.in_ok-rows.rows.items c.args.text.now c.in-Some.key c.in_ok-rows.ensures.value c.in-Some.ensures.some)

pub loop-rows-preserved : goal.loop-rows-preserved
loop-rows-preserved g c = record {
  same = c.rows_from.ensures.same ∙ c.loop-rows.invariant.same;
  stays = λ known is. c.rows_from.ensures.stays known (c.loop-rows.invariant.stays known is);
  covers = covers_behind c.in-Some.key c.args.text.now (taken_before g.T.Listed.key c.in_ok-rows.rows.items c.args.text.now c.in-Some.key c.in-Some.ensures.some);
}
