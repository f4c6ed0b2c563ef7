use Rattle.std.proofs.Common.{◌≡◌, ◌+◌, ◌-◌, ◌≤◌, ℕ, [], max, length, map, vec_len}
use Rattle.std.specs.Prelude.{get_or}
use Rattle.s3_events.proofs.script.make_room.Given as goal

abbrev pub invariant-loop-alloc : goal.invariant-loop-alloc
invariant-loop-alloc l = record {
  least : length l.initial.moments.items ≤ length l.moments.items;
  most : length l.moments.items ≤ max (length l.initial.moments.items) (l.connection + 1);
  same : (c : ℕ) → get_or (map (λ list. list.items) l.moments.items) c [] ≡ get_or (map (λ list. list.items) l.initial.moments.items) c [];
}

abbrev pub decreases-loop-alloc : goal.decreases-loop-alloc
decreases-loop-alloc l = (l.connection + 1) - vec_len l.moments
