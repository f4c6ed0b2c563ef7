use Rattle.s3_session.proofs.InvitationLemmas.{one_invitation, invites_stays}
use Rattle.s3_session.proofs.laws.invitations_are_final.Goals as goal

pub returns : goal.returns
returns c = record {
  one = one_invitation c.texts_say_one_thing.ensures;
  stay = invites_stays c.verdicts_stay.ensures.head c.verdicts_stay.ensures.too_large c.verdicts_stay.ensures.pairs c.verdict_is_exact.ensures.head;
}
