use Rattle.std.proofs.Common.{ap, ◌∙◌, [], ◌∷◌, ◌++◌}
use Rattle.s3_records.proofs.ListLemmas.{mapped_more}
use Rattle.s3_rows.specs.ListLaws.{upload_listed}
use Rattle.s3_stored_rows.specs.Changes.{upload_columns}
use Rattle.s3_row_lists.proofs.uploads.add_told.Goals as goal

-- one more upload is one more row
pub loop-row-preserved : goal.loop-row-preserved
loop-row-preserved c =
    mapped_more (λ u. upload_listed (upload_columns u)) c.args.told.now.items c.loop-row.told.items c.push.new.self.items c.args.found.now c.loop-row.row-index c.row-item.result c.loop-row-test.true c.row-item.is c.loop-row.invariant
    (c.in_ok-push.ensures.items ∙ ap (λ r. c.loop-row.told.items ++ r ∷ []) c.in_ok-upload_row_from.ensures)
