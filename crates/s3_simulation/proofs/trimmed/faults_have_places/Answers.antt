use Rattle.s3_simulation.proofs.FaultLemmas.{faults_have_places}
use Rattle.s3_simulation.proofs.trimmed.faults_have_places.Goals as goal

pub returns : goal.returns
returns c = faults_have_places c.sound_messages_stand_alone.ensures.walks
