use Rattle.std.proofs.Common.{◌≡◌, ℕ, List, ◌++◌}
use Rattle.s3_settings.specs.Devices.{Takes}
use Rattle.s3_settings.proofs.devices.write_output.Given as goal

abbrev pub invariant-loop : goal.invariant-loop
invariant-loop g l = (done : List ℕ) × (l.bytes ≡ done ++ l.left) × Takes (g.D.Device.traffic l.fn.device) (g.D.Device.traffic l.device) done
