use Rattle.std.proofs.Common.{◌≡◌, ◌-◌, ◌≤◌, ◌++◌, length, take}
use Rattle.s3_aws_chunked.proofs.trailer.Trailer.take.Given as goal

abbrev pub invariant-loop-taken : goal.invariant-loop-taken
invariant-loop-taken l = record {
  within : l.taken ≤ length l.piece;
  fits : l.taken ≤ l.initial.self.size - length l.initial.self.bytes;
  value : l.self ≡ record l.initial.self { bytes = l.initial.self.bytes ++ take l.taken l.piece };
}

abbrev pub decreases-loop-taken : goal.decreases-loop-taken
decreases-loop-taken l = length l.piece - l.taken
