use Rattle.std.proofs.Common.{◌≡◌, ◌++◌, drop}
use Rattle.s3_canonical.specs.Request.{single_spaced}
use Rattle.s3_canonical.proofs.text.push_single_spaced.Given as goal

abbrev pub invariant-loop-i : goal.invariant-loop-i
invariant-loop-i l = l.text.items ++ single_spaced (drop l.i l.value) ≡ l.initial.text.items ++ single_spaced l.value
