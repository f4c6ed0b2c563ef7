use Rattle.std.proofs.Common.{sym, ◌∙◌, Bool, List, ℕ}
use Rattle.s3_requests.specs.CopySource.{is_condition}
use Rattle.s3_requests.proofs.LineLemmas.{line_found, none_so_far}
use Rattle.s3_requests.proofs.copy_source.has_source_condition.Goals as goal

-- a line sets a condition
abbrev sets : List ℕ × List ℕ → Bool
sets line = is_condition line.0

pub returns-then-is_condition : goal.returns-then-is_condition
returns-then-is_condition c =
    sym (line_found sets c.args.head.now.headers c.loop-index.index _ _ c.header.ensures (sym c.is_condition.ensures ∙ c.if-is_condition.true))

pub loop-index-preserved : goal.loop-index-preserved
loop-index-preserved c =
    none_so_far sets c.args.head.now.headers c.loop-index.index _ _ c.header.ensures (sym c.is_condition.ensures ∙ c.if-is_condition.false) c.loop-index.invariant
