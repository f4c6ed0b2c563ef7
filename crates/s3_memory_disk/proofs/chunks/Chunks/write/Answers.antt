use Rattle.std.proofs.Common.{◌≡◌, ap, ◌-◌, take, drop, length, arith, length-drop}
use Rattle.std.proofs.lemmas.Slice.{between_to_end}
use Rattle.s3_memory_disk.proofs.ChunkLemmas.{more_written}
use Rattle.s3_memory_disk.proofs.chunks.Chunks.write.Goals as goal

pub loop-done-preserved : goal.loop-done-preserved
loop-done-preserved c =
    let bytes = c.args.bytes.now in
    let done = c.loop-done.done in
    let count = c.write_piece-done.result in
    let rest : take (length bytes - done) (drop done bytes) ≡ drop done bytes = between_to_end bytes done (length bytes) (omega arith) in
    record {
      so_far = more_written c.args.self.now c.loop-done.self _ bytes _ c.args.at done count c.loop-done.invariant.inside c.requires.inside c.loop-done.invariant.so_far (ap (take count) rest) c.write_piece-done.ensures.value;
      inside = omega (arith, ap length rest, length-drop done bytes);
    }
