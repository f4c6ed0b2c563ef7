use Rattle.s3_simulation.proofs.ReplayLemmas.{opened_replays}
use Rattle.s3_simulation.proofs.laws.opened_replays_are_replays.Goals as goal

pub returns : goal.returns
returns c = opened_replays
