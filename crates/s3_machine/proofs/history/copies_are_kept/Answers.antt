use Rattle.s3_machine.proofs.AnswerLemmas.{copies_are_kept, copy_versions_are_kept}
use Rattle.s3_machine.proofs.history.copies_are_kept.Goals as goal

pub returns : goal.returns
returns c = record {
  by_key = copies_are_kept c.stored_is_kept.ensures.by_key;
  by_version = copy_versions_are_kept c.stored_is_kept.ensures.told c.stored_is_kept.ensures.by_version;
}
