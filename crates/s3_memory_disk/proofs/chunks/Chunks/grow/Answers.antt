use Rattle.std.proofs.Common.{arith}
use Rattle.s3_memory_disk.proofs.ChunkLemmas.{more_chunks, more_are, enough}
use Rattle.s3_memory_disk.proofs.chunks.Chunks.grow.Goals as goal

pub loop-alloc-preserved : goal.loop-alloc-preserved
loop-alloc-preserved c = record {
  are = more_are _ _ _ c.in_ok-push.ensures.items c.loop-alloc.invariant.are c.in_ok-zeros.ensures;
  kept = more_chunks _ _ _ c.args.self.now c.in_ok-push.ensures.items c.loop-alloc.invariant.kept;
}

pub returns-clause-room : goal.returns-clause-room
returns-clause-room c = enough _ c.args.len c.loop-alloc.invariant.are (omega arith)
