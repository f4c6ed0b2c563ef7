use Rattle.s3_payloads.proofs.EitherLemmas.{count, end, incomplete, judge, short, stand, stay, whole, within}
use Rattle.s3_payloads.proofs.either_chunks.either_chunks_are_judged.Goals as goal

pub returns : goal.returns
returns c =
    let readers = c.readers_judge.ensures in
    let signed = c.trailed_readers_judge.ensures in
    let final = c.trailed_verdicts_are_final.ensures in
    record {
      judge = judge readers.verdict signed.verdict;
      count = count readers.count signed.count;
      within = within readers.within signed.within;
      stay = stay c.verdicts_are_final.ensures.stay final.stay;
      end = end c.verdicts_are_final.ensures.end final.end;
      short = short c.open_bodies_are_short.ensures.short final.short;
      incomplete = incomplete c.open_bodies_are_short.ensures.incomplete final.incomplete;
      stand = stand c.refusals_stand.ensures.stand c.trailed_refusals_stand.ensures.stand;
      whole = whole c.bodies_are_accepted.ensures.accepted c.trailed_bodies_are_accepted.ensures.accepted;
    }
