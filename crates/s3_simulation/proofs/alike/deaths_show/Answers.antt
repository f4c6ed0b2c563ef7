use Rattle.s3_simulation.proofs.DeathLemmas.{deaths_show}
use Rattle.s3_simulation.proofs.alike.deaths_show.Goals as goal

pub returns : goal.returns
returns c = deaths_show
