use Rattle.s3_payloads.proofs.TrailedLawLemmas.{are_short, are_whole, counts, end_incomplete, ends, judges, stand_there, stays, within}
use Rattle.s3_payloads.proofs.trailed.trailed_bodies_are_judged.Goals as goal

pub returns : goal.returns
returns c =
    let laws = c.either_chunks_are_judged.ensures in
    record {
      judge = judges laws.judge laws.count laws.whole;
      count = counts laws.count;
      within = within laws.within;
      stay = stays laws.stay;
      end = ends laws.end;
      short = are_short laws.short;
      incomplete = end_incomplete laws.incomplete;
      stand = stand_there laws.stay laws.short laws.stand laws.whole;
      whole = are_whole laws.whole;
    }
