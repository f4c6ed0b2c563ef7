use Rattle.std.proofs.Common.{◌≡◌, ℕ, ◌-◌, ◌≤◌, List, ◌++◌, length, take}
use Rattle.s3_transfer_chunks.specs.Reading as reading
use Rattle.s3_transfer_chunks.specs.Decoder.{reading_in}
use Rattle.s3_transfer_chunks.specs.Sinks.{Grows, got}
use Rattle.s3_transfer_chunks.proofs.steps.advance.Given as goal

abbrev pub invariant-loop-taken : goal.invariant-loop-taken
invariant-loop-taken g l = record {
  within : l.taken ≤ length l.bytes;
  value : (held : List ℕ)
      → reading_in l.standing (held ++ got (g.S.Sink.taken l.initial.sink) (g.S.Sink.taken l.sink))
      ≡ reading.run (reading_in l.initial.standing held) (take l.taken l.bytes);
  reads : (held : List ℕ) → reading.count_taken (reading_in l.initial.standing held) (take l.taken l.bytes) ≡ l.taken;
  grows : Grows (g.S.Sink.taken l.initial.sink) (g.S.Sink.taken l.sink);
}

abbrev pub decreases-loop-taken : goal.decreases-loop-taken
decreases-loop-taken g l = length l.bytes - l.taken
