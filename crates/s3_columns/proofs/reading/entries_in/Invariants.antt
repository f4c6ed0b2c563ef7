use Rattle.std.proofs.Common.{◌≡◌, length}
use Rattle.s3_columns.specs.Items.{items_read}
use Rattle.s3_columns.specs.Reading.{entry_at}
use Rattle.s3_columns.proofs.ItemLemmas.{with_front}
use Rattle.s3_columns.proofs.reading.entries_in.Given as goal

abbrev pub invariant-loop-rest : goal.invariant-loop-rest
invariant-loop-rest l = with_front l.entries.items (items_read entry_at l.rest) ≡ items_read entry_at l.bytes

abbrev pub decreases-loop-rest : goal.decreases-loop-rest
decreases-loop-rest l = length l.rest
