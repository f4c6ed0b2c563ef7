use Rattle.s3_listings.specs.Sought.{begins_with}
use Rattle.s3_listings.proofs.SoughtLemmas.{kept_all, kept_front}
use Rattle.s3_listings.proofs.sought.kept.Goals as goal

pub returns-in-None : goal.returns-in-None
returns-in-None g c =
    kept_all (begins_with g.T.Listed.key c.args.prefix.now) c.args.rows.items c.deref.result.now c.deref.ensures.value (c.first_without.ensures.none c.in-None.is)

pub returns-in-Some : goal.returns-in-Some
returns-in-Some g c =
    kept_front (begins_with g.T.Listed.key c.args.prefix.now) c.args.rows.items c.deref.result.now c.truncate.new.self.items c.in-Some.end c.deref.ensures.value
    c.in-Some.ensures.front c.in-Some.ensures.ends c.in-Some.ensures.within c.truncate.ensures.items
