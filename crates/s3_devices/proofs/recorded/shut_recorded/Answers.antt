use Rattle.s3_devices.specs.declared.events.DeviceEvent.TheVariants as events
use Rattle.s3_devices.proofs.RecordedLemmas.{traffic_with}
use Rattle.s3_devices.proofs.recorded.shut_recorded.Goals as goal

pub returns : goal.returns
returns g c name = traffic_with name c.args.recorder.now.entries c.record.new.self.entries events.Shut c.record.ensures.entry
