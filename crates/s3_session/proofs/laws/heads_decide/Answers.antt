use Rattle.s3_session.proofs.EarlyLemmas.{heads_are_decided}
use Rattle.s3_session.proofs.ReplayLemmas.{headless_are_silent}
use Rattle.s3_session.proofs.laws.heads_decide.Goals as goal

pub returns : goal.returns
returns c = record {
  decided = heads_are_decided c.verdicts_are_final.ensures.end;
  silent = headless_are_silent;
}
