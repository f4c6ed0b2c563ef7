use Rattle.s3_simulation.proofs.RefusedLemmas.{kept_runs, refused_leaves_nothing}
use Rattle.s3_simulation.proofs.trimmed.refused_leaves_nothing.Goals as goal

pub returns : goal.returns
returns c =
    let one = c.outputs_are_one.ensures in
    let stay = c.outputs_stay.ensures in
    let faults = c.faults_end.ensures in
    record { runs = kept_runs one stay faults.end faults.alone; same = refused_leaves_nothing one stay faults.end faults.alone }
