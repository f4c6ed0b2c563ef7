-- The codings of the pieces so far that are stored.
use Rattle.std.proofs.Common.{◌≡◌}
use Rattle.std.specs.List.{join_with_byte}
use Rattle.s3_requests.proofs.DescriptionLemmas.{codings_in, is_found}
use Rattle.s3_requests.proofs.description.codings_kept.Given as goal

abbrev pub invariant-loop-coding : goal.invariant-loop-coding
invariant-loop-coding l = record {
  printed : l.codings.items ≡ join_with_byte 44 (codings_in l.yielded);
  found : l.found ≡ is_found (codings_in l.yielded);
}
