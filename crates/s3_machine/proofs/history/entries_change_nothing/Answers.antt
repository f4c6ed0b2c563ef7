use Rattle.s3_machine.proofs.AnswerLemmas.{quiet_entries_change_nothing}
use Rattle.s3_machine.proofs.history.entries_change_nothing.Goals as goal

pub returns : goal.returns
returns c = record { quiet = quiet_entries_change_nothing c.steps_keep.ensures.quiet }
