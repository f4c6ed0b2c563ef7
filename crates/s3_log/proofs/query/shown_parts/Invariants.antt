use Rattle.std.proofs.Common.{◌≡◌, ◌++◌, length}
use Rattle.std.specs.List.{flat_map}
use Rattle.s3_text.specs.Characters.{ampersand}
use Rattle.s3_text.specs.Cut.{parts_at}
use Rattle.s3_log.specs.Query.{shown_behind}
use Rattle.s3_log.proofs.query.shown_parts.Given as goal

abbrev pub invariant-loop-part : goal.invariant-loop-part
invariant-loop-part l =
    l.shown.items ++ flat_map shown_behind (parts_at ampersand l.rest) ≡ flat_map shown_behind (parts_at ampersand l.query)

abbrev pub decreases-loop-part : goal.decreases-loop-part
decreases-loop-part l = length l.rest
