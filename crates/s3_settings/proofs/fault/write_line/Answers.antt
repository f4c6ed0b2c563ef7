use Rattle.std.proofs.Common.{◌++◌}
use Rattle.std.specs.Prelude.{codes}
use Rattle.s3_settings.proofs.DeviceLemmas.{cut_after, cut_in_first, told_after}
use Rattle.s3_settings.proofs.fault.write_line.Goals as goal

pub returns-in-Ok-clause-told : goal.returns-in-Ok-clause-told
returns-in-Ok-clause-told g c =
    told_after c.write_output.result (g.E.Device.traffic c.args.errors.now) (g.E.Device.traffic c.write_four.new.errors) (g.E.Device.traffic c.write_output.new.device) ((codes "s3d: " ++ c.args.first.now) ++ (c.args.second.now ++ c.args.third.now)) _ c.in-Ok.ensures.told c.write_output.ensures.written

pub returns-in-Ok-clause-refused : goal.returns-in-Ok-clause-refused
returns-in-Ok-clause-refused g c =
    cut_after c.write_output.result (g.E.Device.traffic c.args.errors.now) (g.E.Device.traffic c.write_four.new.errors) (g.E.Device.traffic c.write_output.new.device) ((codes "s3d: " ++ c.args.first.now) ++ (c.args.second.now ++ c.args.third.now)) _ c.in-Ok.ensures.told c.write_output.ensures.refused

pub returns-in-Err-clause-refused : goal.returns-in-Err-clause-refused
returns-in-Err-clause-refused g c = cut_in_first _ (g.E.Device.traffic c.args.errors.now) (g.E.Device.traffic c.write_four.new.errors) ((codes "s3d: " ++ c.args.first.now) ++ (c.args.second.now ++ c.args.third.now)) _ c.in-Err.ensures.refused
