use Rattle.s3_machine.proofs.TellingLemmas.{closed_uploads_are_refused}
use Rattle.s3_machine.proofs.laws.closed_uploads_are_refused.Goals as goal

pub returns : goal.returns
returns c = closed_uploads_are_refused
