use Rattle.s3_driver.proofs.ServedLemmas.{failed_sends_nothing, late_sends_nothing}
use Rattle.s3_driver.proofs.driver.Driver.write.Goals as goal

pub returns-in-Later-clause-sent : goal.returns-in-Later-clause-sent
returns-in-Later-clause-sent g c =
    late_sends_nothing c.args.self.now (g.D.Device.traffic c.args.device.now) (g.D.Device.traffic c.write.new.self) c.in-Later.ensures.writes

pub returns-in-Failed-clause-sent : goal.returns-in-Failed-clause-sent
returns-in-Failed-clause-sent g c =
    failed_sends_nothing c.args.self.now (g.D.Device.traffic c.args.device.now) (g.D.Device.traffic c.write.new.self) c.in-Failed.ensures.writes
