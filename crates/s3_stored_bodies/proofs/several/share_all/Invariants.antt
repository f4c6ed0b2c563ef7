use Rattle.std.proofs.Common.{◌≡◌, take}
use Rattle.s3_stored_bodies.specs.Numbers.{named_more, StillOutlive}
use Rattle.s3_stored_bodies.proofs.several.share_all.Given as goal

-- the numbers so far are shared
abbrev pub invariant-loop-done : goal.invariant-loop-done
invariant-loop-done g l = record {
  uses : g.B.StoredBodies.uses l.bodies ≡ named_more (take l.done l.numbers) (g.B.StoredBodies.uses l.fn.bodies);
  contents : g.B.StoredBodies.contents l.bodies ≡ g.B.StoredBodies.contents l.fn.bodies;
  outlives : StillOutlive g.B.StoredBodies.outlives l.fn.bodies l.bodies;
}
