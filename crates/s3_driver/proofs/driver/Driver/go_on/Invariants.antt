use Rattle.std.proofs.Common.{◌≡◌, ◌≤◌, ◌+◌, true, List, None}
use Rattle.s3_machine.specs.History.{Entry}
use Rattle.s3_connection.specs.Connection.{taken_of}
use Rattle.s3_driver.specs.Served.{GoesOn, HasMet, HaveMore, IsServed, StopsAt, TellsMoves, progress_of}
use Rattle.s3_driver.proofs.driver.Driver.go_on.Given as goal

abbrev pub invariant-loop : goal.invariant-loop
invariant-loop g l =
    ((entries : List Entry) → IsServed l.config l.initial.self (g.D.Device.traffic l.initial.device) l.initial.moments.entries entries
    → IsServed l.config l.self (g.D.Device.traffic l.device) l.moments.entries entries)
    × HaveMore l.now l.initial.moments.entries l.moments.entries
    × GoesOn (g.D.Device.traffic l.initial.device) (g.D.Device.traffic l.device)
    × TellsMoves l.moved (g.D.Device.traffic l.initial.device) (g.D.Device.traffic l.device)
    × (l.moved.may_go_on ≡ true)
    × HasMet true l.moved.state (g.D.Device.traffic l.initial.device) (g.D.Device.traffic l.device)
    × StopsAt true l.moved.state l.self
    × (taken_of l.initial.self ≡ None → taken_of l.self ≡ None)
    × (taken_of l.initial.self ≡ None
    → progress_of l.initial.self (g.D.Device.traffic l.initial.device) + l.counter ≤ progress_of l.self (g.D.Device.traffic l.device))
