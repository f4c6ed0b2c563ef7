use Rattle.std.proofs.Common.{sym, ◌∙◌}
use Rattle.s3_requests.specs.Unserved.{is_unserved_line}
use Rattle.s3_requests.proofs.LineLemmas.{line_found, none_so_far}
use Rattle.s3_requests.proofs.unserved.has_unserved_line.Goals as goal

pub returns-then-is_unserved_line : goal.returns-then-is_unserved_line
returns-then-is_unserved_line c =
    sym (line_found (λ line. is_unserved_line c.args.operation line) c.args.head.now.headers c.loop-index.index _ _ c.header.ensures
    (sym c.is_unserved_line.ensures ∙ c.if-is_unserved_line.true))

pub loop-index-preserved : goal.loop-index-preserved
loop-index-preserved c =
    none_so_far (λ line. is_unserved_line c.args.operation line) c.args.head.now.headers c.loop-index.index _ _ c.header.ensures
    (sym c.is_unserved_line.ensures ∙ c.if-is_unserved_line.false) c.loop-index.invariant
