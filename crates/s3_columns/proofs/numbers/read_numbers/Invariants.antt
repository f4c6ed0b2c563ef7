use Rattle.std.proofs.Common.{◌≡◌, ◌≤◌, length}
use Rattle.s3_columns.specs.Items.{items_read}
use Rattle.s3_columns.specs.Numbers.{number_at}
use Rattle.s3_columns.proofs.ItemLemmas.{with_front}
use Rattle.s3_columns.proofs.numbers.read_numbers.Given as goal

abbrev pub invariant-loop-rest : goal.invariant-loop-rest
invariant-loop-rest l =
    (with_front l.numbers.items (items_read number_at l.rest) ≡ items_read number_at l.bytes)
    × (length l.rest ≤ length l.bytes)

abbrev pub decreases-loop-rest : goal.decreases-loop-rest
decreases-loop-rest l = length l.rest
