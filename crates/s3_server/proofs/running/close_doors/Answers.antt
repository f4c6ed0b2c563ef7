use Rattle.s3_server.proofs.ServedLemmas.{closed_more}
use Rattle.s3_server.proofs.running.close_doors.Goals as goal

pub loop-door-preserved : goal.loop-door-preserved
loop-door-preserved g c =
    closed_more c.args.network.now c.loop-door.network c.close_door.new.self c.loop-door.rosters.items c.push.new.self.items
    c.in-Some.door.passed c.in-Some-close_door.roster c.loop-door.invariant c.in-Some-close_door.ensures.closed c.close_door.ensures.asked
    c.in-Some-close_door.ensures.passed c.in_ok-push.ensures.items
