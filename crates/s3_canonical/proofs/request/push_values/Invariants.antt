use Rattle.std.proofs.Common.{◌≡◌, ◌++◌, take}
use Rattle.std.specs.List.{join_with_byte}
use Rattle.s3_canonical.proofs.HeaderLemmas.{is_found, spaced_in}
use Rattle.s3_canonical.proofs.request.push_values.Given as goal

abbrev pub invariant-loop-index : goal.invariant-loop-index
invariant-loop-index l = record {
  printed : l.text.items ≡ l.initial.text.items ++ join_with_byte 44 (spaced_in l.name (take l.index l.head.headers));
  found : l.found ≡ is_found (spaced_in l.name (take l.index l.head.headers));
}
