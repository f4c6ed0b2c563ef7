use Rattle.std.proofs.Common.{◌≡◌, ap, ◌∙◌, ◌-◌, ◌++◌, length, arith}
use Rattle.s3_records.proofs.KeyLemmas.{then_ok}
use Rattle.s3_rows.specs.ListLaws.{upload_listed}
use Rattle.s3_stored_rows.specs.Changes.{upload_columns}
use Rattle.s3_stored_rows.specs.Queries.{uploads_behind}
use Rattle.s3_row_lists.proofs.CutLemmas.{found_told}
use Rattle.s3_row_lists.proofs.uploads.add_behind.Goals as goal

pub returns-clause-value : goal.returns-clause-value
returns-clause-value g c =
    let room : c.in_ok-limit.limit ≡ c.args.most - length c.args.told.now.items = omega arith in
    then_ok c.add_told.result
    (λ is. is ∙ ap (λ l. c.args.told.now.items ++ l)
    (found_told upload_listed upload_columns c.in_ok-limit.limit (c.args.most - length c.args.told.now.items) c.in_ok-found.found.items c.deref.result.now (uploads_behind c.args.bucket.now c.args.key.now (g.R.StoredRows.tables c.args.rows.now))
    room c.deref.ensures.value c.in_ok-found.ensures.value))
    c.add_told.ensures
