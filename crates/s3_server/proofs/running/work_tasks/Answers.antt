use Rattle.std.proofs.Common.{subst}
use Rattle.s3_server.specs.Served.{AreFresh}
use Rattle.s3_server.proofs.ServedLemmas.{fresh_from, fresh_last}
use Rattle.s3_server.proofs.running.work_tasks.Goals as goal

pub loop-roster-init : goal.loop-roster-init
loop-roster-init g c = fresh_from 0 c.args.rosters.items c.requires.new

pub work_task-requires-clause-nobody : goal.work_task-requires-clause-nobody
work_task-requires-clause-nobody g c =
    (fresh_last c.pop.new.self.items c.in-Some.roster (subst AreFresh c.in-Some.ensures.items c.loop-roster.invariant)).0

pub work_task-requires-clause-nobody_left : goal.work_task-requires-clause-nobody_left
work_task-requires-clause-nobody_left g c =
    (fresh_last c.pop.new.self.items c.in-Some.roster (subst AreFresh c.in-Some.ensures.items c.loop-roster.invariant)).1

pub loop-roster-preserved : goal.loop-roster-preserved
loop-roster-preserved g c =
    (fresh_last c.pop.new.self.items c.in-Some.roster (subst AreFresh c.in-Some.ensures.items c.loop-roster.invariant)).2
