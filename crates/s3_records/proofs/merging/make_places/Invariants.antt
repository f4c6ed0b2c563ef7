use Rattle.std.proofs.Common.{ℕ, List, IsTrue, is_some, take}
use Rattle.std.specs.BTreeMap.{get as value_in}
use Rattle.s3_text.specs.Order.{byte_order}
use Rattle.s3_records.specs.Deletions.{is_key_of_any}
use Rattle.s3_records.specs.Merging.{IsKeptOrPlaced}
use Rattle.s3_records.proofs.merging.make_places.Given as goal

-- the places so far are made
abbrev pub invariant-loop-object : goal.invariant-loop-object
invariant-loop-object l = record {
  placed : (q : List ℕ) → IsKeptOrPlaced (is_key_of_any q l.objects) (value_in byte_order l.fn.tree q) (value_in byte_order l.tree q);
  there : (q : List ℕ) → IsTrue (is_key_of_any q (take l.object-index l.objects)) → IsTrue (is_some (value_in byte_order l.tree q));
}
