use Rattle.std.proofs.Common.{◌≤◌, false, length, arith}
use Rattle.s3_records.specs.Rows.{version_row}
use Rattle.s3_rows.specs.Meaning.{version_of}
use Rattle.s3_stored_rows.specs.Bodies.{encoding}
use Rattle.s3_stored_rows.specs.Changes.{version_columns}
use Rattle.s3_row_lists.proofs.CutLemmas.{told_more, told_all}
use Rattle.s3_row_lists.proofs.versions.older_told.Goals as goal

pub loop-row-preserved : goal.loop-row-preserved
loop-row-preserved c = λ contents.
    told_more (λ v. version_row v.key.items false (version_of (encoding contents) (version_columns v))) c.loop-row.told.items c.push.new.self.items c.args.found.now c.loop-row.row-index c.row-item.result c.in_ok-version_row_from.field-0
    c.loop-row-test.true c.row-item.is (c.loop-row.invariant contents) (c.in_ok-version_row_from.ensures contents) c.in_ok-push.ensures.items

pub returns : goal.returns
returns c = λ contents.
    let past : length c.args.found.now ≤ c.loop-row.row-index = omega arith in
    told_all (λ v. version_row v.key.items false (version_of (encoding contents) (version_columns v))) c.loop-row.told.items c.args.found.now c.loop-row.row-index past (c.loop-row.invariant contents)
