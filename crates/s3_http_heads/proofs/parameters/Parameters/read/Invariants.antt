-- The places so far are those of the pieces that are not empty.
use Rattle.std.proofs.Common.{◌≡◌, map, filter, nat_lt, length, All}
use Rattle.s3_http_heads.specs.Target.{pair_of}
use Rattle.s3_http_heads.specs.Parameters.{IsPlaceWithin, place_bytes}
use Rattle.s3_http_heads.proofs.parameters.Parameters.read.Given as goal

abbrev pub invariant-loop-piece : goal.invariant-loop-piece
invariant-loop-piece l = record {
  read : map (place_bytes l.text.items) l.places.items ≡ map pair_of (filter (λ piece. nat_lt 0 (length piece)) (map (λ s. s.now) l.yielded));
  within : All (IsPlaceWithin (length l.text.items)) l.places.items;
}
