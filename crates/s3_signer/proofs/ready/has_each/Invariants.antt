use Rattle.std.proofs.Common.{◌↔◌, drop}
use Rattle.std.specs.List.{AllByRecursion}
use Rattle.s3_signer.specs.Request.{HasOne, given_lines}
use Rattle.s3_signer.proofs.ready.has_each.Given as goal

abbrev pub invariant-loop-line : goal.invariant-loop-line
invariant-loop-line l =
    AllByRecursion (HasOne l.head) (drop l.line-index (given_lines l.lines)) ↔ AllByRecursion (HasOne l.head) (given_lines l.lines)
