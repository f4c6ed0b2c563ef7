use Rattle.std.proofs.Common.{arith, ap, ◌∙◌, ◌++◌}
use Rattle.s3_bodies.proofs.BlockLemmas.{added_blocks}
use Rattle.s3_bodies.proofs.blocks.Blocks.append.Goals as goal

pub invariant_of-self-2 : goal.invariant_of-self-2
invariant_of-self-2 c =
    added_blocks 65536 c.self.inside.row.full.items _ c.self.inside.row.last _ c.args.«data».now _ c.in-Some.size c.self.invariant.1 (omega arith)
    (c.in_ok-add.ensures.added _ c.self.invariant.0)

pub returns-clause-taken : goal.returns-clause-taken
returns-clause-taken c =
    (c.in_ok-add.ensures.added _ c.self.invariant.0).bytes_are ∙ ap (λ l. l ++ c.args.«data».now) c.self.view_is
