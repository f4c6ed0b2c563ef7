use Rattle.std.proofs.Common.{◌≡◌, length, take}
use Rattle.std.specs.Vec.{vec_len, vec_capacity}
use Rattle.s3_records.specs.Deletions.{all_deleted_in, markers_in}
use Rattle.s3_records.proofs.keys.KeyMap.delete_each.Given as goal

-- the objects so far are deleted, and there is room for what is told of each
abbrev pub invariant-loop-object : goal.invariant-loop-object
invariant-loop-object l = record {
  done : l.self ≡ all_deleted_in l.versioning l.number l.moment l.fn.self (take l.object-index l.objects);
  told : l.ids.items ≡ markers_in l.versioning l.number l.moment l.fn.self (take l.object-index l.objects);
  count : vec_len l.ids ≡ l.object-index;
  room : vec_capacity l.ids ≡ length l.objects;
}
