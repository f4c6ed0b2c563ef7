use Rattle.std.proofs.Common.{◌≡◌, ◌++◌, take, map}
use Rattle.s3_columns.specs.Attributes.{entry_pair}
use Rattle.s3_columns.specs.Pairs.{pairs_spelled}
use Rattle.s3_columns.proofs.kept.add_entries.Given as goal

abbrev pub invariant-loop-entry : goal.invariant-loop-entry
invariant-loop-entry l = l.out.items ≡ l.initial.out.items ++ pairs_spelled (map entry_pair (take l.entry-index l.entries))
