-- The values of the lines so far.
use Rattle.std.proofs.Common.{◌≡◌, ◌++◌, take}
use Rattle.std.specs.List.{join_with_byte}
use Rattle.s3_requests.proofs.DescriptionLemmas.{is_found, values_in}
use Rattle.s3_requests.proofs.description.push_values.Given as goal

abbrev pub invariant-loop-index : goal.invariant-loop-index
invariant-loop-index l = record {
  printed : l.text.items ≡ l.initial.text.items ++ join_with_byte 44 (values_in l.name (take l.index l.head.headers));
  found : l.found ≡ is_found (values_in l.name (take l.index l.head.headers));
}
