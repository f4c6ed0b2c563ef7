use Rattle.s3_session.proofs.VerdictLemmas.{one_verdict}
use Rattle.s3_session.proofs.laws.verdicts_are_one.Goals as goal

pub returns : goal.returns
returns c = one_verdict c.texts_say_one_thing.ensures c.verdicts_are_final.ensures.one
