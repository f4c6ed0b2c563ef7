use Rattle.std.proofs.Common.{◌∙◌, ap}
use Rattle.s3_text.specs.Sorting.{insert_by}
use Rattle.s3_signer.specs.Request.{line_cmp}
use Rattle.s3_signer.proofs.LineLemmas.{given_in_order}
use Rattle.s3_signer.proofs.lines.add_lines.Goals as goal

pub loop-index-preserved : goal.loop-index-preserved
loop-index-preserved c = λ others begun.
    c.in_ok-add_line.ensures ∙ ap (insert_by line_cmp _) (c.loop-index.invariant others begun)
    ∙ given_in_order c.args.given.now c.loop-index.index _ others c.loop-index-test.true c.loop-index.auto.index
