use Rattle.std.proofs.Common.{◌≡◌, take}
use Rattle.std.proofs.Common.{map as each}
use Rattle.s3_stored_bodies.specs.Numbers.{bytes_under, StillOutlive}
use Rattle.s3_stored_bodies.proofs.several.bodies_under.Given as goal

-- the bodies so far are there, and nothing else changed
abbrev pub invariant-loop-number : goal.invariant-loop-number
invariant-loop-number g l = record {
  parts : l.parts.items ≡ each (bytes_under (g.B.StoredBodies.contents l.fn.bodies)) (take l.number-index l.numbers);
  contents : g.B.StoredBodies.contents l.bodies ≡ g.B.StoredBodies.contents l.fn.bodies;
  uses : g.B.StoredBodies.uses l.bodies ≡ g.B.StoredBodies.uses l.fn.bodies;
  outlives : StillOutlive g.B.StoredBodies.outlives l.fn.bodies l.bodies;
}
