use Rattle.std.proofs.Common.{arith, ◌∙◌, ap, length, length-take, length-drop}
use Rattle.s3_bodies.proofs.BlockLemmas.{cut_more, all_more}
use Rattle.s3_bodies.proofs.row.cut.Goals as goal

pub loop-rest-preserved : goal.loop-rest-preserved
loop-rest-preserved c =
    let block_is = c.in_ok-with_room.ensures ∙ c.split_at.ensures.front in
    record {
      all = rw c.in_ok-push.ensures.items (cut_more c.loop-rest.full.items _ _ _ _ 65536 c.loop-rest.invariant.all block_is c.split_at.ensures.back);
      full = rw c.in_ok-push.ensures.items (all_more c.loop-rest.full.items _ 65536 c.loop-rest.invariant.full (omega (arith, ap length block_is, length-take 65536 c.loop-rest.rest.now)));
      alone = λ empty. absurd (omega (arith, ap length empty, ap length c.split_at.ensures.back, length-drop 65536 c.loop-rest.rest.now));
    }
