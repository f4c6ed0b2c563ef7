-- No parameter so far has the name.
use Rattle.std.proofs.Common.{◌≡◌, false, take}
use Rattle.std.specs.List.{list_any}
use Rattle.s3_http_heads.proofs.TargetLemmas.{is_called}
use Rattle.s3_http_heads.proofs.target.Target.has_parameter.Given as goal

abbrev pub invariant-loop-index : goal.invariant-loop-index
invariant-loop-index l = list_any (is_called l.name) (take l.index l.self.parameters) ≡ false
