use Rattle.s3_session.proofs.VerdictLemmas.{verdict_exists}
use Rattle.s3_session.proofs.laws.verdicts_exist.Goals as goal

pub returns : goal.returns
returns c = verdict_exists c.verdicts_are_final.ensures.exist
