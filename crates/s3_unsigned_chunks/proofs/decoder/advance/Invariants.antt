use Rattle.std.proofs.Common.{◌≡◌, ℕ, ◌+◌, ◌-◌, ◌≤◌, List, ◌++◌, length, take}
use Rattle.s3_unsigned_chunks.specs.Reading.{Reading}
use Rattle.s3_unsigned_chunks.specs.Reading as reading
use Rattle.s3_unsigned_chunks.specs.Reader.{reading_in}
use Rattle.s3_unsigned_chunks.specs.Sinks.{Grows, got}
use Rattle.s3_unsigned_chunks.proofs.decoder.advance.Given as goal

abbrev pub invariant-loop-taken : goal.invariant-loop-taken
invariant-loop-taken g l = record {
  within : l.taken ≤ length l.bytes;
  taken : l.standing.taken ≡ l.initial.standing.taken + l.taken;
  value : (decoded : ℕ) (held : List ℕ)
      → reading_in l.standing (held ++ got (g.S.Sink.taken l.initial.sink) (g.S.Sink.taken l.sink))
      ≡ reading.run (record { name = l.name; encoded = l.encoded; decoded = decoded }) (reading_in l.initial.standing held) (take l.taken l.bytes);
  grows : Grows (g.S.Sink.taken l.initial.sink) (g.S.Sink.taken l.sink);
}

abbrev pub decreases-loop-taken : goal.decreases-loop-taken
decreases-loop-taken g l = length l.bytes - l.taken
