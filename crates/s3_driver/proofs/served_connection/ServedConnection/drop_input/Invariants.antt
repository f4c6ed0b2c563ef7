use Rattle.std.proofs.Common.{◌≡◌}
use Rattle.s3_driver.specs.ServedConnection.{Rests}
use Rattle.s3_driver.proofs.served_connection.ServedConnection.drop_input.Given as goal

abbrev pub invariant-loop : goal.invariant-loop
invariant-loop g l = Rests l.initial.self l.self × (l.self.state ≡ l.initial.self.state)
