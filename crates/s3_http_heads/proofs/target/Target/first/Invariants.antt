-- No parameter so far has the name.
use Rattle.std.proofs.Common.{◌≡◌}
use Rattle.s3_http_heads.proofs.TargetLemmas.{first_from}
use Rattle.s3_http_heads.proofs.target.Target.first.Given as goal

abbrev pub invariant-loop-index : goal.invariant-loop-index
invariant-loop-index l = first_from l.name l.self.parameters l.index ≡ first_from l.name l.self.parameters 0
