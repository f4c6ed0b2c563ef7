use Rattle.s3_simulation.proofs.RefusedLemmas.{one_trim, trim_once}
use Rattle.s3_simulation.proofs.trimmed.trims_are_one.Goals as goal

pub returns : goal.returns
returns c = record {
  one = trim_once;
  run = one_trim c.outputs_are_one.ensures c.outputs_stay.ensures c.faults_end.ensures.end c.faults_end.ensures.alone;
}
