use Rattle.s3_connection.proofs.OutputLemmas.{written}
use Rattle.s3_connection.proofs.laws.connections_write.Goals as goal

pub returns : goal.returns
returns c = written c.sessions_write.ensures c.outputs_stay.ensures
