use Rattle.std.proofs.Common.{◌≡◌, ℕ, List, take}
use Rattle.std.specs.Borrow.{Bor}
use Rattle.std.specs.List.{concat, flat_map}
use Rattle.s3_stored_bodies.proofs.several.join.Given as goal

-- the bodies so far are there
abbrev pub invariant-loop-part : goal.invariant-loop-part
invariant-loop-part l = flat_map (λ (body : Bor (List ℕ)). body.now) l.lent.items ≡ concat (take l.part-index l.parts)
