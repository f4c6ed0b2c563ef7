use Rattle.std.specs.List.Sorted.{IsStrictlySortedBy}
use Rattle.s3_connection_tests.proofs.workers.asked.asked.Goals as goal

-- no names are in order
pub new-requires-2-clause-order : goal.new-requires-2-clause-order
unfolding IsStrictlySortedBy
new-requires-2-clause-order c = rw c.new.ensures.items tt
