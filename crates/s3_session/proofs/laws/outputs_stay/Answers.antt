use Rattle.s3_session.proofs.StandsLemmas.{writes_stay}
use Rattle.s3_session.proofs.laws.outputs_stay.Goals as goal

pub returns : goal.returns
returns c = writes_stay c.verdicts_stay.ensures c.invitations_are_final.ensures.stay c.verdicts_stay-2.ensures.head
