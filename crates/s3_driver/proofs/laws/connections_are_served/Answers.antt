use Rattle.s3_driver.proofs.EndedLemmas.{are_served}
use Rattle.s3_driver.proofs.laws.connections_are_served.Goals as goal

pub returns : goal.returns
returns c = are_served
