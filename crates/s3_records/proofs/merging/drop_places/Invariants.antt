use Rattle.std.proofs.Common.{◌≡◌, ℕ, List, take}
use Rattle.std.specs.Prelude.{if◌then◌else◌}
use Rattle.std.specs.BTreeMap.{get as value_in}
use Rattle.s3_text.specs.Order.{byte_order}
use Rattle.s3_records.specs.Deletions.{is_key_of_any}
use Rattle.s3_records.specs.Catalogue.{found_versions}
use Rattle.s3_records.specs.Merging.{held}
use Rattle.s3_records.proofs.merging.drop_places.Given as goal

-- the objects so far are done
abbrev pub invariant-loop-object : goal.invariant-loop-object
invariant-loop-object l = (q : List ℕ) → value_in byte_order l.tree q
    ≡ (if is_key_of_any q (take l.object-index l.objects) then held (found_versions (value_in byte_order l.fn.tree q)) else value_in byte_order l.fn.tree q)
