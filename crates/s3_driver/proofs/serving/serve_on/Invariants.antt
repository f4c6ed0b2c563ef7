use Rattle.s3_driver.specs.Ended.{Fails}
use Rattle.s3_driver.specs.Served.{HaveMore, IsServed}
use Rattle.s3_driver.specs.declared.state.Ending.TheVariants as endings
use Rattle.s3_driver.proofs.serving.serve_on.Given as goal

abbrev pub invariant-loop : goal.invariant-loop
invariant-loop g l =
    (IsServed l.config l.initial.driver (g.D.Device.traffic l.initial.device) l.initial.moments.entries (g.N.StoreHandle.entries l.initial.handle)
    → IsServed l.config l.driver (g.D.Device.traffic l.device) l.moments.entries (g.N.StoreHandle.entries l.handle))
    × HaveMore l.now l.initial.moments.entries l.moments.entries
    × Fails endings.Closed (g.D.Device.traffic l.initial.device) (g.D.Device.traffic l.device)
