-- The entries so far that stand on that side.
use Rattle.std.proofs.Common.{◌≡◌, ◌++◌, filter, take}
use Rattle.s3_requests.specs.KeptSum.{is_on_side}
use Rattle.s3_requests.proofs.kept_sum.push_side.Given as goal

abbrev pub invariant-loop-entry : goal.invariant-loop-entry
invariant-loop-entry l = l.all.items ≡ l.initial.all.items ++ filter (is_on_side l.behind l.name) (take l.entry-index l.entries)
