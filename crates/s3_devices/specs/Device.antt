-- What a device gave and took: the connection's other end.
use Rattle.std.specs.Prelude.{◌≡◌, ℕ, suc, ◌<◌, ◌≤◌, Bool, true, List, [], ◌++◌, length, take, Option}
use Rattle.std.specs.Io.KnownBytes.{Appends, Consumes, IsAtEnd, Keeps}
use Rattle.s3_devices.specs.declared.device.Reading.{Reading}
use Rattle.s3_devices.specs.declared.device.Reading.TheVariants as reads
use Rattle.s3_devices.specs.declared.device.Writing.{Writing}
use Rattle.s3_devices.specs.declared.device.Writing.TheVariants as writes

-- by which number a device is known; all bytes that it gave, and whether it said that no more come; all bytes that it took, and
-- whether it was told that no more do; how often a read and a write of it failed, and would have had to wait
pub record Traffic : Type 0 where
  pub name : ℕ
  pub received : List ℕ
  pub is_ended : Bool
  pub sent : List ℕ
  pub is_shut : Bool
  pub failed_reads : ℕ
  pub failed_writes : ℕ
  pub late_reads : ℕ
  pub late_writes : ℕ

-- these bytes more came, or went
abbrev pub with_received : Traffic → List ℕ → Traffic
with_received t bytes = record t { received = t.received ++ bytes }

abbrev pub with_sent : Traffic → List ℕ → Traffic
with_sent t bytes = record t { sent = t.sent ++ bytes }

-- it was told that it takes no more
abbrev pub with_shut : Traffic → Traffic
with_shut t = record t { is_shut = true }

-- what a read into a buffer is in the device's traffic: some bytes, which stand at the front of the buffer; the end; or one
-- more that would have had to wait, or that failed
abbrev pub Reads : Reading → Traffic → Traffic → List ℕ → Type 0
Reads (reads.Bytes count) old new buffer = (0 < count) × (count ≤ length buffer) × (new ≡ with_received old (take count buffer))
Reads reads.End old new buffer = new ≡ record old { is_ended = true }
Reads reads.Later old new buffer = new ≡ record old { late_reads = suc old.late_reads }
Reads reads.Failed old new buffer = new ≡ record old { failed_reads = suc old.failed_reads }

-- what a write of some bytes is in the device's traffic: it took some of them in front; or one more would
-- have had to wait, or failed
abbrev pub Writes : Writing → Traffic → Traffic → List ℕ → Type 0
Writes (writes.Took count) old new bytes = (0 < count) × (count ≤ length bytes) × (new ≡ with_sent old (take count bytes))
Writes writes.Later old new bytes = new ≡ record old { late_writes = suc old.late_writes }
Writes writes.Failed old new bytes = new ≡ record old { failed_writes = suc old.failed_writes }

-- what a stream has left to give after a read, where it tells that: it loses the bytes that were read, has none at the end, and stays
-- as it is otherwise
abbrev pub HasGiven : Reading → Option (List ℕ) → Option (List ℕ) → List ℕ → Type 0
HasGiven (reads.Bytes count) old new buffer = Consumes old new (take count buffer)
HasGiven reads.End old new buffer = IsAtEnd new
HasGiven reads.Later old new buffer = Keeps old new
HasGiven reads.Failed old new buffer = Keeps old new

-- what it holds after a write, where it tells that: it gains the bytes that were taken, and none otherwise
abbrev pub HasTaken : Writing → Option (List ℕ) → Option (List ℕ) → List ℕ → Type 0
HasTaken (writes.Took count) old new bytes = Appends old new (take count bytes)
HasTaken writes.Later old new bytes = Keeps old new
HasTaken writes.Failed old new bytes = Appends old new []
