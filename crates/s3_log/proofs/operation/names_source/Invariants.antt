use Rattle.std.proofs.Common.{◌≡◌, codes, length, map}
use Rattle.std.specs.List.{list_any}
use Rattle.s3_text.specs.Characters.{colon, line_feed}
use Rattle.s3_text.specs.Cut.{parts_at}
use Rattle.s3_http_heads.specs.Head.{is_named}
use Rattle.s3_log.specs.Operation.{cut_at}
use Rattle.s3_log.proofs.operation.names_source.Given as goal

abbrev pub invariant-loop-line : goal.invariant-loop-line
invariant-loop-line l =
    list_any (is_named (codes "x-amz-copy-source")) (map (cut_at colon) (parts_at line_feed l.rest))
    ≡ list_any (is_named (codes "x-amz-copy-source")) (map (cut_at colon) (parts_at line_feed l.head))

abbrev pub decreases-loop-line : goal.decreases-loop-line
decreases-loop-line l = length l.rest
