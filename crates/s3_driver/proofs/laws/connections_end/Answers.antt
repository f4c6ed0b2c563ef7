use Rattle.s3_driver.proofs.EndedLemmas.{end_so}
use Rattle.s3_driver.proofs.laws.connections_end.Goals as goal

pub returns : goal.returns
returns c = end_so c.connections_write.ensures
