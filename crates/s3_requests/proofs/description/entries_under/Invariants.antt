-- The entries of the names so far that say something.
use Rattle.std.proofs.Common.{◌≡◌, map, filter, take}
use Rattle.s3_requests.specs.Description.{entry_of, is_said}
use Rattle.s3_requests.specs.Name.{texts}
use Rattle.s3_requests.proofs.description.entries_under.Given as goal

abbrev pub invariant-loop-name : goal.invariant-loop-name
invariant-loop-name l = l.entries.items ≡ filter is_said (map (entry_of l.head) (texts (take l.name-index l.names)))
