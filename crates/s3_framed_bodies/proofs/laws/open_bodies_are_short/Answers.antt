use Rattle.s3_framed_bodies.proofs.LawLemmas.{open_are_short, open_end_incomplete}
use Rattle.s3_framed_bodies.proofs.laws.open_bodies_are_short.Goals as goal

pub returns : goal.returns
returns c =
    let law = c.open_bodies_are_short.ensures in
    let ended = c.verdicts_are_final.ensures.end in
    let bodies = c.bodies_are_accepted.ensures in
    let taken = c.open_bodies_take_all.ensures in
    record {
      short = open_are_short law.short ended bodies.accepted bodies.bodies c.refusals_stand.ensures.stand taken.taken c.verdicts_are_final-2.ensures.stay;
      incomplete = open_end_incomplete law.incomplete ended taken.incomplete;
    }
