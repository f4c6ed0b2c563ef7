use Rattle.s3_session.proofs.StayLemmas.{judges_stay}
use Rattle.s3_session.proofs.laws.verdicts_stay.Goals as goal

pub returns : goal.returns
returns c =
    judges_stay c.verdicts_stay.ensures.head c.verdicts_stay.ensures.too_large c.verdicts_stay.ensures.pairs c.verdict_is_exact.ensures.head
    c.verdicts_are_final.ensures.stay c.accepted_bodies_are_whole.ensures.whole
