use Rattle.std.proofs.Common.{ℕ, List}
use Rattle.s3_settings.specs.Devices.{Gives}
use Rattle.s3_cli.specs.Reading.{IsFed}
use Rattle.s3_cli.proofs.run.feed_input.Given as goal

abbrev pub invariant-loop : goal.invariant-loop
invariant-loop g l = (given : List ℕ)
    × Gives (g.D.Device.traffic l.fn.device) (g.D.Device.traffic l.device) given
    × IsFed l.fn.replay l.replay given
