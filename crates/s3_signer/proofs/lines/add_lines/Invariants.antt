use Rattle.std.proofs.Common.{◌≡◌, List, ◌++◌, drop, map}
use Rattle.s3_text.specs.Sorting.{sorted_by}
use Rattle.s3_signer.specs.Line.{pairs}
use Rattle.s3_signer.specs.Request.{HeaderLine, given_lines, line_cmp, lower_line}
use Rattle.s3_signer.proofs.lines.add_lines.Given as goal

abbrev pub invariant-loop-index : goal.invariant-loop-index
invariant-loop-index l =
    (others : List HeaderLine) → pairs l.initial.lines.items ≡ sorted_by line_cmp others
    → pairs l.lines.items ≡ sorted_by line_cmp (map lower_line (drop l.index (given_lines l.given)) ++ others)
