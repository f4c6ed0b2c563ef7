use Rattle.s3_machine.proofs.JoinedLemmas.{completions_join_what_was_sent}
use Rattle.s3_machine.proofs.history.completions_join_what_was_sent.Goals as goal

pub returns : goal.returns
returns c =
    completions_join_what_was_sent c.changes_are_by_upload.ensures c.puts_are_under_one_number.ensures.puts
    c.completions_join_the_listed.ensures.joined
