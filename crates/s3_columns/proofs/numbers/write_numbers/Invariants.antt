use Rattle.std.proofs.Common.{◌≡◌, take}
use Rattle.s3_columns.specs.Numbers.{numbers_spelled}
use Rattle.s3_columns.proofs.numbers.write_numbers.Given as goal

abbrev pub invariant-loop-number : goal.invariant-loop-number
invariant-loop-number l = l.bytes.items ≡ numbers_spelled (take l.number-index l.numbers)
