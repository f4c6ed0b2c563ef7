use Rattle.std.proofs.Common.{arith}
use Rattle.s3_columns.proofs.AttributeLemmas.{entry_small, pairs_more}
use Rattle.s3_columns.proofs.kept.add_entries.Goals as goal

pub add_pair-requires-clause-name : goal.add_pair-requires-clause-name
add_pair-requires-clause-name c =
    let small = entry_small c.args.entries.now c.loop-entry.entry-index c.entry-item.result c.loop-entry-test.true c.entry-item.is c.requires in
    rw c.name.ensures (omega arith)

pub add_pair-requires-clause-value : goal.add_pair-requires-clause-value
add_pair-requires-clause-value c =
    let small = entry_small c.args.entries.now c.loop-entry.entry-index c.entry-item.result c.loop-entry-test.true c.entry-item.is c.requires in
    rw c.value.ensures (omega arith)

pub loop-entry-preserved : goal.loop-entry-preserved
loop-entry-preserved c =
    let more = pairs_more c.args.out.now.items c.args.entries.now c.loop-entry.entry-index c.entry-item.result c.loop-entry-test.true c.entry-item.is in
    rw (c.in_ok-add_pair.ensures, c.name.ensures, c.value.ensures, c.loop-entry.invariant) more
