use Rattle.std.proofs.Common.{◌≡◌, ℕ, List, None, take}
use Rattle.std.specs.Prelude.{if◌then◌else◌}
use Rattle.std.specs.BTreeMap.{get as value_in}
use Rattle.s3_text.specs.Order.{byte_order}
use Rattle.s3_records.specs.Deletions.{is_key_of_any}
use Rattle.s3_records.proofs.copying.copies_of.Given as goal

-- the copies so far are made
abbrev pub invariant-loop-object : goal.invariant-loop-object
invariant-loop-object l = (q : List ℕ) → value_in byte_order l.copies q
    ≡ (if is_key_of_any q (take l.object-index l.objects) then value_in byte_order l.from q else None)
