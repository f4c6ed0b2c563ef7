use Rattle.std.proofs.Common.{sym, ap, ◌∙◌, ◌++◌, take, true, false, map as each}
use Rattle.s3_records.specs.Rows.{version_row, rows_under}
use Rattle.s3_records.proofs.KeyLemmas.{then_ok}
use Rattle.s3_records.proofs.ListLemmas.{one_fits, one_behind, more_behind}
use Rattle.s3_records.proofs.listing.add_key.Goals as goal

pub add_older-requires : goal.add_older-requires
add_older-requires c =
    let row = version_row c.args.key.now true c.in-Some.newest.now in
    one_fits c.args.most c.args.rows.now.items c.push.new.rows.items row c.requires
    (one_behind c.args.rows.now.items c.reserve.new.self.items c.push.new.rows.items row c.reserve.ensures.items (c.in-Ok.ensures.ok row c.version_row.ensures))

pub returns-in-Ok-clause-ok : goal.returns-in-Ok-clause-ok
returns-in-Ok-clause-ok c =
    let have = c.args.rows.now.items in
    let key = c.args.key.now in
    let row = version_row key true c.in-Some.newest.now in
    then_ok c.add_older.result
    (λ ok. ok ∙ more_behind c.args.most have c.push.new.rows.items row (each (version_row key false) c.in-Some.older.now)
    (one_behind have c.reserve.new.self.items c.push.new.rows.items row c.reserve.ensures.items (c.in-Ok.ensures.ok row c.version_row.ensures))
    ∙ ap (λ versions. take c.args.most (have ++ rows_under key versions)) (sym c.in-Some.ensures.cases.0))
    c.add_older.ensures.ok
