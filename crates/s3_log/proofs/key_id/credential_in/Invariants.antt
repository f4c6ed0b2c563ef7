use Rattle.std.proofs.Common.{◌≡◌, length}
use Rattle.std.specs.Prelude.{find}
use Rattle.s3_text.specs.Characters.{ampersand}
use Rattle.s3_text.specs.Cut.{parts_at}
use Rattle.s3_log.specs.KeyId.{is_credential}
use Rattle.s3_log.proofs.key_id.credential_in.Given as goal

abbrev pub invariant-loop-part : goal.invariant-loop-part
invariant-loop-part l = find is_credential (parts_at ampersand l.rest) ≡ find is_credential (parts_at ampersand l.query)

abbrev pub decreases-loop-part : goal.decreases-loop-part
decreases-loop-part l = length l.rest
