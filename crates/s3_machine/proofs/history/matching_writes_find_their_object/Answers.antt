use Rattle.s3_machine.proofs.ConditionalLemmas.{accepted_finds_matching, unmatched_changes_nothing, refusals_tell_why}
use Rattle.s3_machine.proofs.history.matching_writes_find_their_object.Goals as goal

pub returns : goal.returns
returns c = record {
  found = accepted_finds_matching;
  unmatched = unmatched_changes_nothing c.steps_keep.ensures.quiet;
  codes = refusals_tell_why;
}
