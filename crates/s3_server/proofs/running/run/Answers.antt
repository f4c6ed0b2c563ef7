use Rattle.std.proofs.Common.{length}
use Rattle.s3_server.proofs.ServedLemmas.{worked_so}
use Rattle.s3_server.proofs.running.run.Goals as goal

pub returns-in-Ok : goal.returns-in-Ok
returns-in-Ok g c = record {
  worked = worked_so c.end.result c.args.config.now g.J.Ground.base.store (length c.args.jobs.opened.items) c.args.network.now c.all_back-back.new.network c.args.report.now c.end.new.report
      c.in-Ok.rosters.items c.in-Ok.ensures.each c.end.ensures.left c.end.ensures.back c.in-Ok.ensures.closed c.in-Ok.ensures.all;
}
