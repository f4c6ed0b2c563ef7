use Rattle.std.proofs.Common.{◌≡◌, length}
use Rattle.std.specs.Prelude.{find}
use Rattle.s3_text.specs.Characters.{line_feed}
use Rattle.s3_text.specs.Cut.{parts_at}
use Rattle.s3_log.specs.KeyId.{is_authorization}
use Rattle.s3_log.proofs.key_id.authorization_line.Given as goal

abbrev pub invariant-loop-line : goal.invariant-loop-line
invariant-loop-line l = find is_authorization (parts_at line_feed l.rest) ≡ find is_authorization (parts_at line_feed l.head)

abbrev pub decreases-loop-line : goal.decreases-loop-line
decreases-loop-line l = length l.rest
