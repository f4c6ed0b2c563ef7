use Rattle.std.proofs.Common.{arith, take}
use Rattle.std.proofs.lemmas.Bool.Decides.{nat_tests}
use Rattle.s3_devices.specs.declared.events.DeviceEvent.TheVariants as events
use Rattle.s3_devices.proofs.RecordedLemmas.{traffic_with}
use Rattle.s3_devices.proofs.recorded.read_some.Goals as goal

pub returns-in-Ok-eq0-clause-reads : goal.returns-in-Ok-eq0-clause-reads
returns-in-Ok-eq0-clause-reads g c name = traffic_with name c.args.recorder.now.entries c.record.new.self.entries events.Ended c.record.ensures.entry

pub returns-in-Ok-clause-reads : goal.returns-in-Ok-clause-reads
returns-in-Ok-clause-reads g c name =
    let bound = c.in-Ok.ensures.bound in (
      grind (arith, nat_tests, c.in-Ok.count-test),
      omega (arith, bound, c.in-Ok.count-is),
      traffic_with name c.args.recorder.now.entries c.record-in-Ok.new.self.entries (events.Gave (take c.in-Ok.count c.read.new.buf)) c.record-in-Ok.ensures.entry,
    )

pub returns-in_default : goal.returns-in_default
returns-in_default g c = record {
  reads = λ name. traffic_with name c.args.recorder.now.entries c.record-in_default.new.self.entries events.ReadFailed c.record-in_default.ensures.entry;
  told = c.in-Err.ensures.bytes;
}

pub returns-in-WouldBlock-clause-reads : goal.returns-in-WouldBlock-clause-reads
returns-in-WouldBlock-clause-reads g c name = traffic_with name c.args.recorder.now.entries c.record-in-WouldBlock.new.self.entries events.ReadLater c.record-in-WouldBlock.ensures.entry
