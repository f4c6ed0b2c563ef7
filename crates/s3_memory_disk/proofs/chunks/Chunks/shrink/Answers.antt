use Rattle.std.proofs.Common.{◌∙◌, ap, ◌≤◌, take, length, arith}
use Rattle.std.specs.List.{concat}
use Rattle.s3_memory_disk.proofs.ChunkLemmas.{first_enough, first_kept}
use Rattle.s3_memory_disk.proofs.chunks.Chunks.shrink.Goals as goal

pub returns-clause-kept : goal.returns-clause-kept
returns-clause-kept c =
    let inside : c.args.len ≤ length (concat c.self.inside.chunks.items) = omega (arith, ap length c.self.view_is) in
    rw c.truncate.ensures.items (first_kept c.self.inside.chunks.items c.args.len _ c.self.invariant c.div_ceil.ensures inside ∙ ap (take c.args.len) c.self.view_is)

pub returns-clause-room : goal.returns-clause-room
returns-clause-room c =
    let inside : c.args.len ≤ length (concat c.self.inside.chunks.items) = omega (arith, ap length c.self.view_is) in
    rw c.truncate.ensures.items (first_enough c.self.inside.chunks.items c.args.len _ c.self.invariant c.div_ceil.ensures inside)
