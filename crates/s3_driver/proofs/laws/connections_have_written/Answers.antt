use Rattle.s3_driver.proofs.EndedLemmas.{have_written}
use Rattle.s3_driver.proofs.laws.connections_have_written.Goals as goal

pub returns : goal.returns
returns c = have_written c.connections_write.ensures
