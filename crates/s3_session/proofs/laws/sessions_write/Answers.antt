use Rattle.s3_session.proofs.StandsLemmas.{sessions_write}
use Rattle.s3_session.proofs.laws.sessions_write.Goals as goal

pub returns : goal.returns
returns c = sessions_write c.bodies_are_judged.ensures.verdict
