use Rattle.s3_machine.proofs.JoinedLemmas.{completions_are_kept, completion_versions_are_kept}
use Rattle.s3_machine.proofs.history.completions_are_kept.Goals as goal

pub returns : goal.returns
returns c =
    let stored = c.completions_join_what_was_sent.ensures in
    record {
      by_key = completions_are_kept stored c.stored_is_kept.ensures.by_key;
      by_version = completion_versions_are_kept stored c.stored_is_kept.ensures.told c.stored_is_kept.ensures.by_version;
    }
