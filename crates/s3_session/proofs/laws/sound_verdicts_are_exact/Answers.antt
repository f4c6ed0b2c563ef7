use Rattle.s3_session.proofs.SoundLemmas.{ends_are_told, sound_is_message, message_is_sound}
use Rattle.s3_session.proofs.laws.sound_verdicts_are_exact.Goals as goal

pub returns : goal.returns
returns c = record {
  message = sound_is_message c.verdict_is_exact.ensures.head c.accepted_bodies_are_whole.ensures.whole;
  judged = message_is_sound c.verdicts_are_final.ensures.stay c.accepted_bodies_are_whole.ensures.size;
  told = ends_are_told;
}
