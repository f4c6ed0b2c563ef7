use Rattle.s3_machine.proofs.HistoryLemmas.{Legal-push, after-push}
use Rattle.s3_machine.proofs.history.one_more_entry.Goals as goal

pub returns-clause-legal : goal.returns-clause-legal
returns-clause-legal c = Legal-push

pub returns-clause-leaves : goal.returns-clause-leaves
returns-clause-leaves c = after-push
