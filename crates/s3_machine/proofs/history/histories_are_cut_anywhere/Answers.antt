use Rattle.s3_machine.proofs.HistoryLemmas.{Legal-append, Legal-joined, after-append}
use Rattle.s3_machine.proofs.history.histories_are_cut_anywhere.Goals as goal

pub returns-clause-cut : goal.returns-clause-cut
returns-clause-cut c = Legal-append

pub returns-clause-joined : goal.returns-clause-joined
returns-clause-joined c = Legal-joined

pub returns-clause-leaves : goal.returns-clause-leaves
returns-clause-leaves c = after-append
