use Rattle.std.proofs.Common.{false}
use Rattle.s3_records.specs.Rows.{version_row}
use Rattle.s3_records.proofs.ListLemmas.{mapped_more}
use Rattle.s3_records.proofs.listing.add_rows.Goals as goal

-- one more version is one more row
pub loop-version-preserved : goal.loop-version-preserved
loop-version-preserved c =
    let row = version_row c.args.key.now false in
    let version = c.version-item.result in
    mapped_more row _ c.loop-version.rows.items _ c.args.older.now c.loop-version.version-index version c.loop-version-test.true c.version-item.is c.loop-version.invariant
    (c.in-Ok.ensures.ok (row version) c.version_row.ensures)
