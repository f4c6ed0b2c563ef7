use Rattle.s3_framed_bodies.proofs.LawLemmas.{readers_fail, readers_judge, readers_stay_open, readers_stay_within}
use Rattle.s3_framed_bodies.proofs.laws.bodies_are_judged.Goals as goal

pub returns : goal.returns
returns c =
    let law = c.payloads_are_judged.ensures in
    record {
      verdict = readers_judge law.verdict;
      within = readers_stay_within law.within c.bodies_are_accepted.ensures.accepted c.refusals_stand.ensures.stand c.open_bodies_take_all.ensures.taken;
      failed = readers_fail law.failed;
      undecided = readers_stay_open law.undecided;
    }
