use Rattle.std.proofs.Common.{arith}
use Rattle.s3_bodies.proofs.RunLemmas.{push_kept, push_view}
use Rattle.s3_bodies.proofs.runs.Runs.push.Goals as goal

pub invariant_of-self-2 : goal.invariant_of-self-2
invariant_of-self-2 c = push_kept _ _ _ _ c.self.invariant.0 c.self.invariant.1 c.in_ok-push.ensures.items (omega arith)

pub returns : goal.returns
returns c = push_view _ _ _ _ c.in_ok-push.ensures.items c.self.view_is
