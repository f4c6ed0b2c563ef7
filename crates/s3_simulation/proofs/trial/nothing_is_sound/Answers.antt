use Rattle.s3_simulation.proofs.PlayedLemmas.{timed_one}
use Rattle.s3_simulation.proofs.ShareLemmas.{nothing_sound}
use Rattle.s3_simulation.proofs.trial.nothing_is_sound.Goals as goal

pub returns : goal.returns
returns c settings moments =
    nothing_sound c.sessions_write.ensures (timed_one c.outputs_are_one.ensures) c.new.result c.new.ensures.begins c.new.ensures.standing settings moments
