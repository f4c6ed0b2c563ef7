use Rattle.std.proofs.Common.{◌≡◌, take}
use Rattle.s3_stored_bodies.specs.Numbers.{named_less, KeepsNamed, StillOutlive}
use Rattle.s3_stored_bodies.proofs.several.give_up_all.Given as goal

-- the numbers so far are given up
abbrev pub invariant-loop-number : goal.invariant-loop-number
invariant-loop-number g l = record {
  uses : g.B.StoredBodies.uses l.bodies ≡ named_less (take l.number-index l.numbers) (g.B.StoredBodies.uses l.fn.bodies);
  contents : KeepsNamed (g.B.StoredBodies.uses l.bodies) (g.B.StoredBodies.contents l.fn.bodies) (g.B.StoredBodies.contents l.bodies);
  outlives : StillOutlive g.B.StoredBodies.outlives l.fn.bodies l.bodies;
}
