use Rattle.std.proofs.Common.{◌≡◌, ap, ◌∙◌, ◌-◌, ◌++◌, length, arith}
use Rattle.s3_records.proofs.KeyLemmas.{then_ok}
use Rattle.s3_stored_rows.specs.Bodies.{encoding}
use Rattle.s3_stored_rows.specs.Queries.{versions_behind}
use Rattle.s3_row_lists.proofs.VersionListLemmas.{found_listed}
use Rattle.s3_row_lists.proofs.versions.add_behind.Goals as goal

pub returns-clause-value : goal.returns-clause-value
returns-clause-value g c = λ contents.
    let room : c.in_ok-limit.limit ≡ c.args.most - length c.args.told.now.items = omega arith in
    then_ok c.add_told.result
    (λ is. is ∙ ap (λ l. c.args.told.now.items ++ l)
    (found_listed (encoding contents) c.in_ok-limit.limit (c.args.most - length c.args.told.now.items) c.in_ok-found.found.items c.deref.result.now (versions_behind c.args.bucket.now c.args.key.now (g.R.StoredRows.tables c.args.rows.now))
    room c.deref.ensures.value c.in_ok-found.ensures.value))
    (c.add_told.ensures contents)
