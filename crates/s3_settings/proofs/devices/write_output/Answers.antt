use Rattle.std.proofs.Common.{[], refl}
use Rattle.s3_settings.proofs.DeviceLemmas.{none_taken, more_given, output_failed}
use Rattle.s3_settings.proofs.devices.write_output.Goals as goal

pub loop-init : goal.loop-init
loop-init g c = ([], refl, none_taken _)

-- one write more
pub loop-preserved : goal.loop-preserved
loop-preserved g c =
    let traffic = g.D.Device.traffic in
    let (done, split, taken) = c.loop.invariant in
    more_given (traffic c.args.device.now) (traffic c.loop.device) (traffic c.write_piece.new.device) _ done _ c.in_ok-count.count split taken c.in_ok-count.ensures.taken

-- what was taken before the failed write is a beginning
pub returns-in_err-count-clause-refused : goal.returns-in_err-count-clause-refused
returns-in_err-count-clause-refused g c =
    let traffic = g.D.Device.traffic in
    let (done, split, taken) = c.loop.invariant in
    output_failed c.from_residual.result _ (traffic c.args.device.now) (traffic c.loop.device) (traffic c.write_piece.new.device)
    _ done _ split taken c.in_err-count.ensures.refused c.from_residual.ensures.1
