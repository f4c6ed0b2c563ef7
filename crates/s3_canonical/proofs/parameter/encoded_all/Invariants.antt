use Rattle.std.proofs.Common.{◌≡◌, filter, map, take}
use Rattle.s3_canonical.specs.Parameter.{pairs}
use Rattle.s3_canonical.specs.CanonicalTarget.{encoded_pair, is_signed_parameter}
use Rattle.s3_canonical.proofs.parameter.encoded_all.Given as goal

abbrev pub invariant-loop-index : goal.invariant-loop-index
invariant-loop-index l = pairs l.all.items ≡ map encoded_pair (filter is_signed_parameter (take l.index l.target.parameters))
