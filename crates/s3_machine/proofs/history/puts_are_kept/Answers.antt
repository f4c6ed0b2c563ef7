use Rattle.s3_machine.proofs.AnswerLemmas.{puts_are_kept, put_versions_are_kept, bodies_are_tagged}
use Rattle.s3_machine.proofs.history.puts_are_kept.Goals as goal

pub returns : goal.returns
returns c = record {
  by_key = puts_are_kept c.stored_is_kept.ensures.by_key;
  by_version = put_versions_are_kept c.stored_is_kept.ensures.told c.stored_is_kept.ensures.by_version;
  tagged = bodies_are_tagged c.stored_is_kept.ensures.told;
}
