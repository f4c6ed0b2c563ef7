-- What a device did, and the traffic that it makes.
use Rattle.std.specs.Prelude.{ℕ, suc, true, false, List, [], ◌∷◌}
use Rattle.s3_devices.specs.Device.{Traffic, with_received, with_sent, with_shut}
use Rattle.s3_devices.specs.declared.events.DeviceEvent.{DeviceEvent}
use Rattle.s3_devices.specs.declared.events.DeviceEvent.TheVariants as events

-- a stream, and what it gave and took
pub record RecordedStream (S : Type 0) : Type 0 where
  pub traffic : Traffic
  pub stream : S

-- nothing came or went by the device of this name; and by one that needs none, which is 0
abbrev pub untouched : ℕ → Traffic
untouched name = record { name = name; received = []; is_ended = false; sent = []; is_shut = false; failed_reads = 0; failed_writes = 0; late_reads = 0; late_writes = 0 }

abbrev pub no_traffic : Traffic
no_traffic = untouched 0

-- the traffic with what a device did
abbrev pub with_event : Traffic → DeviceEvent → Traffic
with_event t (events.Gave bytes) = with_received t bytes
with_event t events.Ended = record t { is_ended = true }
with_event t (events.Took bytes) = with_sent t bytes
with_event t events.Shut = with_shut t
with_event t events.ReadFailed = record t { failed_reads = suc t.failed_reads }
with_event t events.WriteFailed = record t { failed_writes = suc t.failed_writes }
with_event t events.ReadLater = record t { late_reads = suc t.late_reads }
with_event t events.WriteLater = record t { late_writes = suc t.late_writes }

-- the traffic after all that a device did
abbrev pub after_events : Traffic → List DeviceEvent → Traffic
after_events t [] = t
after_events t (e ∷ es) = after_events (with_event t e) es

abbrev pub traffic_of : ℕ → List DeviceEvent → Traffic
traffic_of name events = after_events (untouched name) events
