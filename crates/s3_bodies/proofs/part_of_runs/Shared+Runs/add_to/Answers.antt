use Rattle.s3_bodies.proofs.PieceLemmas.{up_to, piece_ends}
use Rattle.s3_bodies.proofs.part_of_runs.Shared+Runs.add_to.Goals as goal

pub loop-at-preserved : goal.loop-at-preserved
loop-at-preserved c = record {
  so_far = rw c.size-at.ensures (up_to c.args.self.now c.in_ok-run.run' c.args.runs.now c.loop-at.runs _ c.loop-at.at c.in_ok-run.ensures c.loop-at.invariant.so_far c.in_ok-push.ensures);
  inside = rw c.size-at.ensures (piece_ends c.args.self.now c.in_ok-run.run' c.loop-at.at c.in_ok-run.ensures);
}
