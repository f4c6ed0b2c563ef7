use Rattle.s3_server.specs.Served.{HaveClosed}
use Rattle.std.proofs.Common.{vec_len}
use Rattle.s3_server.proofs.running.close_doors.Given as goal

-- those that were popped are closed
abbrev pub invariant-loop-door : goal.invariant-loop-door
invariant-loop-door g l = HaveClosed l.initial.network l.network l.rosters.items

abbrev pub decreases-loop-door : goal.decreases-loop-door
decreases-loop-door g l = vec_len l.doors
