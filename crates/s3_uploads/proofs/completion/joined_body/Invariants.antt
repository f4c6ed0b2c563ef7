use Rattle.std.proofs.Common.{◌≡◌, ℕ, List, take}
use Rattle.std.specs.Borrow.{Bor}
use Rattle.std.specs.List.{flat_map}
use Rattle.s3_uploads.specs.Completion.{joined_body}
use Rattle.s3_uploads.proofs.CompletionLemmas.{parts_of}
use Rattle.s3_uploads.proofs.completion.joined_body.Given as goal

-- the bodies of the parts so far are there
abbrev pub invariant-loop-part : goal.invariant-loop-part
invariant-loop-part l = flat_map (λ (body : Bor (List ℕ)). body.now) l.bodies.items ≡ joined_body (parts_of (take l.part-index l.parts))
