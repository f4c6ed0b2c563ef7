use Rattle.std.proofs.Common.{◌≡◌, ℕ, List, take}
use Rattle.std.specs.List.{flat_map}
use Rattle.std.specs.Borrow.{Bor}
use Rattle.s3_bodies.proofs.body.Body.join.Given as goal

abbrev pub invariant-loop-body : goal.invariant-loop-body
invariant-loop-body l = l.runs ≡ flat_map (λ (body : Bor (List ℕ)). body.now) (take l.body-index l.bodies)
