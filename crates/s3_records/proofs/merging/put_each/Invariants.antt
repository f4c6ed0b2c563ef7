use Rattle.std.proofs.Common.{◌≡◌, ℕ, List, None, take}
use Rattle.std.specs.Prelude.{if◌then◌else◌}
use Rattle.std.specs.BTreeMap.{get as value_in}
use Rattle.std.specs.Option.{option_or}
use Rattle.s3_text.specs.Order.{byte_order}
use Rattle.s3_records.specs.Deletions.{is_key_of_any}
use Rattle.s3_records.proofs.merging.put_each.Given as goal

-- what stood under the keys so far is moved
abbrev pub invariant-loop-object : goal.invariant-loop-object
invariant-loop-object l = record {
  moved : (q : List ℕ) → value_in byte_order l.from q ≡ (if is_key_of_any q (take l.object-index l.objects) then None else value_in byte_order l.fn.from q);
  put : (q : List ℕ) → value_in byte_order l.tree q
      ≡ (if is_key_of_any q (take l.object-index l.objects) then option_or (value_in byte_order l.fn.from q) (value_in byte_order l.fn.tree q)
      else value_in byte_order l.fn.tree q);
}
