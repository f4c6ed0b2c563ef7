use Rattle.std.proofs.Common.{◌≤◌, length, arith}
use Rattle.s3_rows.specs.ListLaws.{part_told}
use Rattle.s3_stored_rows.specs.Bodies.{encoding}
use Rattle.s3_stored_rows.specs.Changes.{part_columns}
use Rattle.s3_row_lists.proofs.CutLemmas.{told_more, told_all}
use Rattle.s3_row_lists.proofs.parts.parts_told.Goals as goal

pub loop-row-preserved : goal.loop-row-preserved
loop-row-preserved c = λ contents.
    told_more (λ p. part_told (encoding contents) (part_columns p)) c.loop-row.told.items c.push.new.self.items c.args.found.now c.loop-row.row-index c.row-item.result c.in_ok-part_row_from.field-0
    c.loop-row-test.true c.row-item.is (c.loop-row.invariant contents) (c.in_ok-part_row_from.ensures contents) c.in_ok-push.ensures.items

pub returns : goal.returns
returns c = λ contents.
    let past : length c.args.found.now ≤ c.loop-row.row-index = omega arith in
    told_all (λ p. part_told (encoding contents) (part_columns p)) c.loop-row.told.items c.args.found.now c.loop-row.row-index past (c.loop-row.invariant contents)
