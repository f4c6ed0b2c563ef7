use Rattle.s3_simulation.proofs.RunLemmas.{worlds_run}
use Rattle.s3_simulation.proofs.laws.worlds_run.Goals as goal

pub returns : goal.returns
returns c = worlds_run c.connections_write.ensures
