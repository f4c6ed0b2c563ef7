use Rattle.std.proofs.Common.{◌≡◌, ◌-◌, ◌≤◌, true, length, take}
use Rattle.s3_aws_chunked.specs.Count.{advanced}
use Rattle.s3_aws_chunked.specs.Sinks.{Grows}
use Rattle.s3_aws_chunked.specs.Decoder as reading
use Rattle.s3_aws_chunked.proofs.decoder.Decoder.advance.Given as goal

abbrev pub invariant-loop-taken : goal.invariant-loop-taken
invariant-loop-taken g l = record {
  within : l.taken ≤ length l.bytes;
  span : l.self.place.span ≡ advanced l.initial.self.place.span l.taken;
  shows : (p : reading.Progress) → reading.Shows l.initial.self p → reading.Shows l.self (reading.run p (take l.taken l.bytes));
  sink : (p : reading.Progress) → reading.Shows l.initial.self p
      → reading.Keeps (g.S.Sink.taken l.initial.sink) (g.S.Sink.taken l.sink) p (reading.run p (take l.taken l.bytes));
  before : l.front ≡ true → (p : reading.Progress) → reading.Shows l.initial.self p → reading.StandBefore p l.bytes l.taken;
  grows : Grows (g.S.Sink.taken l.initial.sink) (g.S.Sink.taken l.sink);
}

abbrev pub decreases-loop-taken : goal.decreases-loop-taken
decreases-loop-taken g l = length l.bytes - l.taken
