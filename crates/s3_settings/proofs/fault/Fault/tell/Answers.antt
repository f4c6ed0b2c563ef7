use Rattle.std.proofs.Common.{List, ℕ, subst}
use Rattle.s3_settings.specs.Devices.{IsTold}
use Rattle.s3_settings.proofs.DeviceLemmas.{either_told, line_said}
use Rattle.s3_settings.proofs.fault.Fault.tell.Goals as goal

pub returns : goal.returns
returns g c =
    let line = line_said _ _ _ _ _ _ _ c.as_bytes.ensures.value c.as_bytes-2.ensures.value c.as_bytes-3.ensures.value c.parts.ensures in
    let told = either_told c.write_line.result (g.E.Device.traffic c.args.errors.now) (g.E.Device.traffic c.write_line.new.errors) _ c.write_line.ensures.told c.write_line.ensures.refused in
    subst (λ (text : List ℕ). IsTold (g.E.Device.traffic c.args.errors.now) (g.E.Device.traffic c.write_line.new.errors) text) line told
