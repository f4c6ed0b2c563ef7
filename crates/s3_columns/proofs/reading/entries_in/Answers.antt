use Rattle.std.proofs.Common.{rules, ◌≡◌, ◌<◌, length}
use Rattle.s3_columns.specs.Items.{items_read}
use Rattle.s3_columns.specs.Reading.{entry_at}
use Rattle.s3_columns.proofs.ItemLemmas.{goes_on, ends, is_done}
use Rattle.s3_columns.proofs.AttributeLemmas.{entry_reads}
use Rattle.s3_columns.proofs.reading.entries_in.Goals as goal

pub returns-in_default : goal.returns-in_default
returns-in_default c =
    let some : 0 < length c.loop-rest.rest.now = search rules in
    ends entry_at entry_reads.shorter c.loop-rest.entries.items c.loop-rest.rest.now (items_read entry_at c.args.bytes.now) some c.in_default.ensures c.loop-rest.invariant

pub loop-rest-smaller : goal.loop-rest-smaller
loop-rest-smaller c = entry_reads.shorter c.loop-rest.rest.now _ c.in-Some.ensures

pub loop-rest-preserved : goal.loop-rest-preserved
loop-rest-preserved c =
    let on = goes_on entry_at entry_reads.shorter c.loop-rest.entries.items c.loop-rest.rest.now _ c.in-Some.behind.now (items_read entry_at c.args.bytes.now) c.in-Some.ensures c.loop-rest.invariant in
    rw (c.in_ok-push.ensures.items, c.in_ok-copied_entry.ensures) on

pub returns : goal.returns
returns c =
    let none : length c.loop-rest.rest.now ≡ 0 = search rules in
    is_done entry_at c.loop-rest.entries.items c.loop-rest.rest.now (items_read entry_at c.args.bytes.now) none c.loop-rest.invariant
