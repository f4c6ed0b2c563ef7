use Rattle.std.specs.List.Sorted.{IsStrictlySortedBy}
use Rattle.s3_layer_tests.proofs.values.steps.metadata_of_one.Goals as goal

-- one name is in order
pub new-requires-2-clause-order : goal.new-requires-2-clause-order
unfolding IsStrictlySortedBy
new-requires-2-clause-order c = rw (c.in_ok-push.ensures.items, c.new-entries.ensures.items) (tt, tt)
