use Rattle.s3_machine.proofs.UnmetLemmas.{taken_is_refused, unmatched_is_refused, free_is_accepted, matched_is_accepted, plain_is_accepted}
use Rattle.s3_machine.proofs.conditional_laws.conditions_decide.Goals as goal

pub returns : goal.returns
returns c = record {
  taken = taken_is_refused;
  unmatched = unmatched_is_refused;
  free = free_is_accepted;
  matched = matched_is_accepted;
  plain = plain_is_accepted;
}
