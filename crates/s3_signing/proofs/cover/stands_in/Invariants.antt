use Rattle.std.proofs.Common.{◌≡◌, length}
use Rattle.std.specs.Str.{str_to_ascii_lowercase}
use Rattle.s3_signing.specs.Cover.{stands_in}
use Rattle.s3_signing.proofs.cover.stands_in.Given as goal

abbrev pub invariant-loop-name : goal.invariant-loop-name
invariant-loop-name l = stands_in l.rest (str_to_ascii_lowercase l.sent) ≡ stands_in l.signed (str_to_ascii_lowercase l.sent)

abbrev pub decreases-loop-name : goal.decreases-loop-name
decreases-loop-name l = length l.rest
