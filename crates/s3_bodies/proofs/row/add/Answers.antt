use Rattle.std.proofs.Common.{arith, ◌-◌}
use Rattle.s3_bodies.proofs.BlockLemmas.{in_more_blocks}
use Rattle.s3_bodies.proofs.row.add.Goals as goal

pub returns-clause-added : goal.returns-clause-added
returns-clause-added c =
    λ bytes are. in_more_blocks 65536 _ _ _ _ _ _ bytes _ _ c.args.«data».now (65536 - c.len-room.result) are (omega arith) (omega arith)
    c.split_at.ensures.front c.split_at.ensures.back c.in_ok-more.ensures c.in_ok-fill.ensures.full c.in_ok-fill.ensures.last
