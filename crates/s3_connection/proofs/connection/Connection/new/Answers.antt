use Rattle.s3_connection.proofs.HoldsLemmas.{holds_new}
use Rattle.s3_connection.proofs.connection.Connection.new.Goals as goal

pub returns-clause-begins : goal.returns-clause-begins
returns-clause-begins c settings = rw c.new-2.ensures (holds_new settings c.new.result (c.new.ensures.begins settings) c.new.ensures.standing c.new.ensures.goes_on)
