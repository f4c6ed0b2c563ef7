use Rattle.std.proofs.Common.{◌≡◌, length, map, take}
use Rattle.s3_signer.proofs.MessageLemmas.{said}
use Rattle.s3_signer.proofs.message.has_lines.Given as goal

abbrev pub invariant-loop-index : goal.invariant-loop-index
invariant-loop-index l = record {
  many : length l.head.headers ≡ length l.lines;
  same : take l.index l.head.headers ≡ take l.index (map said l.lines);
}
