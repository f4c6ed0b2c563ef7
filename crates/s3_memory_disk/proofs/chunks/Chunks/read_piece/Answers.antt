use Rattle.std.proofs.Common.{◌≡◌, ◌∙◌, ap, ◌+◌, ◌≤◌, ◌++◌, ◌%◌, length, take, drop, arith, length-take}
use Rattle.s3_memory_disk.proofs.ChunkLemmas.{has_chunk, chunk_length, read_from_chunk}
use Rattle.s3_memory_disk.proofs.chunks.Chunks.read_piece.Goals as goal

pub index-requires : goal.index-requires
index-requires c =
    let inside = has_chunk _ _ c.args.at (length c.args.buf.now) c.self.invariant c.self.view_is c.requires.some c.requires.inside in
    omega (arith, inside)

pub read-requires : goal.read-requires
read-requires c =
    let inside = has_chunk _ _ c.args.at (length c.args.buf.now) c.self.invariant c.self.view_is c.requires.some c.requires.inside in
    let whole = chunk_length _ c.index.result.now _ c.self.invariant inside c.index.ensures in
    omega (arith, length-take c.min-count.result c.args.buf.now, whole)

pub returns-clause-value : goal.returns-clause-value
returns-clause-value c =
    let inside = has_chunk _ _ c.args.at (length c.args.buf.now) c.self.invariant c.self.view_is c.requires.some c.requires.inside in
    let count : length (take c.min-count.result c.args.buf.now) ≡ c.min-count.result = omega (arith, length-take c.min-count.result c.args.buf.now) in
    let fits : c.args.at % 65536 + c.min-count.result ≤ 65536 = omega arith in
    let same = read_from_chunk _ _ c.index.result.now c.args.at c.min-count.result c.self.invariant c.self.view_is inside c.index.ensures fits in
    ap (λ l. l ++ drop c.min-count.result c.args.buf.now)
    (c.read.ensures ∙ ap (λ n. take n (drop (c.args.at % 65536) c.index.result.now)) count ∙ same)
