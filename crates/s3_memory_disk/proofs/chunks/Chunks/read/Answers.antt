use Rattle.std.proofs.Common.{arith, rules}
use Rattle.std.proofs.lemmas.List.{places}
use Rattle.s3_memory_disk.proofs.ChunkLemmas.{more_read}
use Rattle.s3_memory_disk.proofs.chunks.Chunks.read.Goals as goal

pub loop-done-preserved : goal.loop-done-preserved
loop-done-preserved c = record {
  so_far = more_read c.loop-done.buf _ _ _ c.args.at c.loop-done.done _ _ c.loop-done.invariant.inside (omega arith) c.loop-done.invariant.so_far c.read_piece-done.ensures.value;
  inside = search (rules, places);
}
