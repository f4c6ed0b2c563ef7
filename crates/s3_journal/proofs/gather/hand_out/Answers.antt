use Rattle.std.proofs.Common.{arith}
use Rattle.s3_journal.proofs.GatherLemmas.{new_next, one_longer}
use Rattle.s3_journal.proofs.gather.hand_out.Goals as goal

pub loop-index-preserved : goal.loop-index-preserved
loop-index-preserved g c =
    let before = c.loop-index.invariant in
    let rosters = c.loop-index.rosters.items in
    let roster = c.in_ok-roster.roster in
    let items = c.in_ok-push.ensures.items in
    let split = c.split_off-share.ensures in
    let left = split.parts_left in
    let same = split.amount_left in
    let len = before.1 in
    let parts = before.2 in
    let amount = before.3 in
    let longer = one_longer rosters roster c.push.new.self.items items in (
      new_next rosters roster c.loop-index.index c.push.new.self.items before.0 len c.in_ok-roster.ensures items,
      omega (arith, longer, len),
      omega (arith, left, parts),
      omega (arith, same, amount),
    )
