use Rattle.s3_session.proofs.AloneLemmas.{sound_alone, sound_walks_alone}
use Rattle.s3_session.proofs.laws.sound_messages_stand_alone.Goals as goal

pub returns : goal.returns
returns c =
    let sound = c.sound_verdicts_are_exact.ensures in
    let invited = c.invitations_are_final.ensures in
    let alone = sound_alone c.verdict_is_exact.ensures.head sound.message sound.judged invited.one in
    record { alone = alone; walks = sound_walks_alone alone c.verdicts_stay.ensures invited.stay }
