use Rattle.s3_simulation.proofs.OneRunLemmas.{one_run}
use Rattle.s3_simulation.proofs.laws.runs_are_one.Goals as goal

pub returns : goal.returns
returns c = one_run c.outputs_are_one.ensures
