use Rattle.s3_server.specs.Served.{SoManyHaveWorked}
use Rattle.s3_server.proofs.rounds.serve_rounds.Given as goal

-- so many rounds have worked as the counter says
abbrev pub invariant-loop : goal.invariant-loop
invariant-loop g l =
    SoManyHaveWorked l.counter l.config l.fn.start.base.store l.mode.workers l.fn.network l.network l.fn.report l.report
    (g.W.Write.contents l.fn.output) (g.W.Write.contents l.output) l.left
