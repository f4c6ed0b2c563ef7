use Rattle.std.proofs.Common.{ap, subst, sym}
use Rattle.s3_driver.specs.Account.{Fits}
use Rattle.s3_journal.specs.Gone.{IsClosed}
use Rattle.s3_journal.specs.Roster.{all_gone}
use Rattle.s3_server.proofs.running.end.Goals as goal

pub tell_left-requires-clause-closed : goal.tell_left-requires-clause-closed
tell_left-requires-clause-closed g c =
    subst (IsClosed (Fits g.J.Ground.base.settings) g.J.Ground.base c.in-Some.closed.recorded_store) (sym (ap (λ rosters. all_gone rosters.items) c.in-Some.ensures.rosters))
    c.in-Some.ensures.closed
