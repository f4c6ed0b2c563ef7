use Rattle.std.proofs.Common.{arith, take}
use Rattle.std.proofs.lemmas.Bool.Decides.{nat_tests}
use Rattle.std.specs.Io.Slices.{io_slices_bytes}
use Rattle.s3_devices.specs.declared.events.DeviceEvent.TheVariants as events
use Rattle.s3_devices.proofs.RecordedLemmas.{appends_nothing, traffic_with}
use Rattle.s3_devices.proofs.recorded.write_some.Goals as goal

pub returns-in-Ok-eq0-clause-writes : goal.returns-in-Ok-eq0-clause-writes
returns-in-Ok-eq0-clause-writes g c name = traffic_with name c.args.recorder.now.entries c.record.new.self.entries events.WriteFailed c.record.ensures.entry

pub returns-in-Ok-clause-writes : goal.returns-in-Ok-clause-writes
returns-in-Ok-clause-writes g c name =
    let bound = c.in-Ok.ensures.bound in (
      grind (arith, nat_tests, c.in-Ok.count-test),
      omega (arith, bound, c.in-Ok.count-is),
      traffic_with name c.args.recorder.now.entries c.record-in-Ok.new.self.entries (events.Took (take c.in-Ok.count (io_slices_bytes c.args.parts.now))) c.record-in-Ok.ensures.entry,
    )

pub returns-in_default : goal.returns-in_default
returns-in_default g c = record {
  writes = λ name. traffic_with name c.args.recorder.now.entries c.record-in_default.new.self.entries events.WriteFailed c.record-in_default.ensures.entry;
  told = appends_nothing (g.S.Write.contents c.args.stream.now) (g.S.Write.contents c.write_parts.new.self) c.in-Err.ensures.bytes;
}

pub returns-in-WouldBlock-clause-writes : goal.returns-in-WouldBlock-clause-writes
returns-in-WouldBlock-clause-writes g c name = traffic_with name c.args.recorder.now.entries c.record-in-WouldBlock.new.self.entries events.WriteLater c.record-in-WouldBlock.ensures.entry
