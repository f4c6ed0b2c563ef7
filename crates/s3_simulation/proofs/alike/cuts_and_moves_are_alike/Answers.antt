use Rattle.s3_simulation.proofs.AlikeLemmas.{cuts_are_alike, moves_are_alike}
use Rattle.s3_simulation.proofs.alike.cuts_and_moves_are_alike.Goals as goal

pub returns : goal.returns
returns c = record { cuts = cuts_are_alike; moves = moves_are_alike }
