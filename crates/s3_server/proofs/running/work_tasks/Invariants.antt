use Rattle.s3_server.specs.Served.{AreFresh}
use Rattle.std.proofs.Common.{vec_len}
use Rattle.s3_server.proofs.running.work_tasks.Given as goal

-- nobody has come to those that are left
abbrev pub invariant-loop-roster : goal.invariant-loop-roster
invariant-loop-roster g l = AreFresh l.rosters.items

abbrev pub decreases-loop-roster : goal.decreases-loop-roster
decreases-loop-roster g l = vec_len l.rosters
