use Rattle.std.proofs.Common.{◌∙◌, ◌<◌, ◌≤◌, length, map, arith}
use Rattle.std.specs.FinMap.{empty}
use Rattle.s3_records.proofs.ListLemmas.{cut_fits}
use Rattle.s3_records.specs.declared.rows.Start.TheVariants.{Behind}
use Rattle.s3_stored_rows.specs.Bodies.{encoding}
use Rattle.s3_stored_rows.specs.Changes.{version_columns}
use Rattle.s3_row_lists.proofs.KeyStepLemmas.{EndsAt, at_none, at_some, cut_at, page_step, page_last, page_grows}
use Rattle.s3_row_lists.proofs.keys.add_behind.Goals as goal

pub returns-in-None-clause-value : goal.returns-in-None-clause-value
returns-in-None-clause-value g c = λ contents.
    let page = c.in_ok-page.page.items in
    let t = g.R.StoredRows.tables c.loop-alloc.rows in
    let cut = cut_at c.args.bucket.now c.loop-alloc.last.items c.deref.result.now t 256 (map version_columns page) c.deref.ensures.value c.in_ok-page.ensures.value in
    page_last (encoding contents) c.args.bucket.now (Behind c.loop-alloc.last.items) t 256 c.args.most page c.loop-alloc.told.items c.page_told.new.told.items cut (c.in_ok-page_told.ensures.value contents) _
    (at_none c.in_ok-page_told.field-0 (length page < 256) (λ key. EndsAt page key.items) c.in-None.is c.in_ok-page_told.ensures.next) (c.loop-alloc.invariant.rows contents)

pub loop-alloc-smaller : goal.loop-alloc-smaller
loop-alloc-smaller g c =
    let page = c.in_ok-page.page.items in
    let ends = at_some c.in_ok-page_told.field-0 (length page < 256) (λ key. EndsAt page key.items) c.in-Some.next c.in-Some.is c.in_ok-page_told.ensures.next in
    let room : length c.loop-alloc.told.items < c.args.most = omega arith in
    let grows : length c.loop-alloc.told.items < length c.page_told.new.told.items = page_grows (encoding empty) c.args.most page ends.0 ends.1 c.loop-alloc.told.items c.page_told.new.told.items room ends.2 (c.in_ok-page_told.ensures.value empty) in
    let fits : length c.page_told.new.told.items ≤ c.args.most = cut_fits c.args.most _ c.page_told.new.told.items (c.in_ok-page_told.ensures.value empty) in
    omega arith

pub loop-alloc-preserved : goal.loop-alloc-preserved
loop-alloc-preserved g c =
    let page = c.in_ok-page.page.items in
    let t = g.R.StoredRows.tables c.loop-alloc.rows in
    let cut = cut_at c.args.bucket.now c.loop-alloc.last.items c.deref.result.now t 256 (map version_columns page) c.deref.ensures.value c.in_ok-page.ensures.value in
    let ends = at_some c.in_ok-page_told.field-0 (length page < 256) (λ key. EndsAt page key.items) c.in-Some.next c.in-Some.is c.in_ok-page_told.ensures.next in
    record {
      rows = λ contents.
          page_step (encoding contents) c.args.bucket.now (Behind c.loop-alloc.last.items) t 256 c.args.most page c.loop-alloc.told.items c.page_told.new.told.items cut (c.in_ok-page_told.ensures.value contents)
          c.in-Some.next.items (g.R.StoredRows.tables c.versions_behind.new.self) ends.0 ends.1 _ c.in_ok-page.ensures.same ends.2 ends.3 (c.loop-alloc.invariant.rows contents);
      same = c.in_ok-page.ensures.same ∙ c.loop-alloc.invariant.same;
      few = cut_fits c.args.most _ c.page_told.new.told.items (c.in_ok-page_told.ensures.value empty);
      stays = λ t left. c.loop-alloc.invariant.stays t (c.in_ok-page.ensures.stays t left);
    }
