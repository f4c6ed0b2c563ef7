use Rattle.std.proofs.Common.{◌<◌, length}
use Rattle.std.specs.FinMap.{empty}
use Rattle.s3_records.proofs.ListLemmas.{cut_fits}
use Rattle.s3_stored_rows.specs.Bodies.{encoding}
use Rattle.s3_row_lists.proofs.KeyStepLemmas.{EndsAt, at_none, at_some, keys_told, page_last, page_then}
use Rattle.s3_row_lists.proofs.keys.keys_from.Goals as goal

pub add_behind-requires : goal.add_behind-requires
add_behind-requires g c = cut_fits c.args.most _ c.page_told.new.told.items (c.in_ok-page_told.ensures.value empty)

pub returns-in-None-clause-value : goal.returns-in-None-clause-value
returns-in-None-clause-value g c = λ contents.
    let page = c.in_ok-page.page.items in
    let t = g.R.StoredRows.tables c.args.rows.now in
    page_last (encoding contents) c.as_bytes-bucket.result.now c.args.start.now t 256 c.args.most page c.new-told.result.items c.page_told.new.told.items c.in_ok-page.ensures.value (c.in_ok-page_told.ensures.value contents) _
    (at_none c.in_ok-page_told.field-0 (length page < 256) (λ key. EndsAt page key.items) c.in-None.is c.in_ok-page_told.ensures.next)
    (keys_told (encoding contents) t c.args.bucket.now c.as_bytes-bucket.result.now c.args.start.now c.args.most c.new-told.result.items c.requires c.as_bytes-bucket.ensures.value c.new-told.ensures.items)

pub returns-in_ok-add_behind-in-Some-clause-value : goal.returns-in_ok-add_behind-in-Some-clause-value
returns-in_ok-add_behind-in-Some-clause-value g c = λ contents.
    let page = c.in_ok-page.page.items in
    let t = g.R.StoredRows.tables c.args.rows.now in
    let ends = at_some c.in_ok-page_told.field-0 (length page < 256) (λ key. EndsAt page key.items) c.in-Some.last c.in-Some.is c.in_ok-page_told.ensures.next in
    page_then (encoding contents) c.as_bytes-bucket.result.now c.args.start.now t 256 c.args.most page c.new-told.result.items c.page_told.new.told.items c.in_ok-page.ensures.value (c.in_ok-page_told.ensures.value contents)
    c.in-Some.last.items (g.R.StoredRows.tables c.versions_found.new.rows) ends.0 ends.1 c.add_behind.new.told.items _ c.in_ok-page.ensures.same ends.2 ends.3
    (keys_told (encoding contents) t c.args.bucket.now c.as_bytes-bucket.result.now c.args.start.now c.args.most c.new-told.result.items c.requires c.as_bytes-bucket.ensures.value c.new-told.ensures.items)
    (c.in_ok-add_behind-in-Some.ensures.value contents)
