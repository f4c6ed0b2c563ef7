use Rattle.std.proofs.Common.{◌+◌, ◌≤◌, ◌%◌, length, take, arith, length-take}
use Rattle.s3_memory_disk.proofs.ChunkLemmas.{has_chunk, chunk_length, written_to_chunk}
use Rattle.s3_memory_disk.proofs.chunks.Chunks.write_piece.Goals as goal

pub index_mut-requires : goal.index_mut-requires
index_mut-requires c =
    let inside = has_chunk _ _ c.args.at (length c.args.bytes.now) c.self.invariant c.self.view_is c.requires.some c.requires.inside in
    omega (arith, inside)

pub write-requires : goal.write-requires
write-requires c =
    let inside = has_chunk _ _ c.args.at (length c.args.bytes.now) c.self.invariant c.self.view_is c.requires.some c.requires.inside in
    let whole = chunk_length _ c.index_mut.result.now _ c.self.invariant inside c.index_mut.ensures.value in
    omega (arith, length-take c.min-count.result c.args.bytes.now, whole)

pub returns-clause-value : goal.returns-clause-value
returns-clause-value c =
    let inside = has_chunk _ _ c.args.at (length c.args.bytes.now) c.self.invariant c.self.view_is c.requires.some c.requires.inside in
    let fits : c.args.at % 65536 + length (take c.min-count.result c.args.bytes.now) ≤ 65536 = omega (arith, length-take c.min-count.result c.args.bytes.now) in
    written_to_chunk _ _ c.index_mut.result.now c.write.new.self (take c.min-count.result c.args.bytes.now) c.args.at c.self.invariant c.self.view_is inside c.index_mut.ensures.value fits c.write.ensures
