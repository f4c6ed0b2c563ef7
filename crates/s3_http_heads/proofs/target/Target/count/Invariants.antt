-- The count so far.
use Rattle.std.proofs.Common.{◌≡◌, ◌≤◌}
use Rattle.s3_http_heads.proofs.TargetLemmas.{called_in}
use Rattle.s3_http_heads.proofs.target.Target.count.Given as goal

abbrev pub invariant-loop-index : goal.invariant-loop-index
invariant-loop-index l =
    record { counted : l.count ≡ called_in l.name l.self.parameters l.index; few : l.count ≤ l.index }
