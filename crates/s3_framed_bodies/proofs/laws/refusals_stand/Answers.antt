use Rattle.s3_framed_bodies.proofs.LawLemmas.{refusals_stand}
use Rattle.s3_framed_bodies.proofs.laws.refusals_stand.Goals as goal

pub returns : goal.returns
returns c = refusals_stand c.refusals_stand.ensures.place c.bodies_are_accepted.ensures.accepted c.bodies_are_accepted.ensures.bodies c.refusals_stand-2.ensures.stand
