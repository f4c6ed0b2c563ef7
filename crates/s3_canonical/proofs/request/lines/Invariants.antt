use Rattle.std.proofs.Common.{◌≡◌, map}
use Rattle.std.specs.List.{flat_map}
use Rattle.s3_canonical.specs.Request.{canonical_line}
use Rattle.s3_canonical.proofs.request.lines.Given as goal

abbrev pub invariant-loop-name : goal.invariant-loop-name
invariant-loop-name l = l.text.items ≡ flat_map (canonical_line l.head) (map (λ s. s.now) l.yielded)
