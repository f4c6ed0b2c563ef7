use Rattle.std.proofs.Common.{◌≡◌, length}
use Rattle.s3_authorization.specs.Authorization.{skip_spaces}
use Rattle.s3_authorization.proofs.authorization.skip_spaces.Given as goal

abbrev pub invariant-loop-rest : goal.invariant-loop-rest
invariant-loop-rest l = skip_spaces l.rest ≡ skip_spaces l.text

abbrev pub decreases-loop-rest : goal.decreases-loop-rest
decreases-loop-rest l = length l.rest
