use Rattle.std.proofs.Common.{◌≡◌, ℕ, List, ◌++◌}
use Rattle.s3_settings.specs.Devices.{Gives}
use Rattle.s3_cli.proofs.events.read_all.Given as goal

abbrev pub invariant-loop : goal.invariant-loop
invariant-loop g l = (given : List ℕ)
    × Gives (g.D.Device.traffic l.fn.device) (g.D.Device.traffic l.device) given
    × (l.text.items ≡ l.fn.text.items ++ given)
