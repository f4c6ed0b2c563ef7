use Rattle.std.proofs.Common.{sym, ap, ◌∙◌}
use Rattle.std.proofs.lemmas.Option.{none-some}
use Rattle.std.specs.FinMap as map
use Rattle.s3_text.specs.Order.{byte_order}
use Rattle.s3_records.proofs.keys.KeyMap.new.Goals as goal

-- no key is there
pub invariant_of-result : goal.invariant_of-result
invariant_of-result c = λ key found.
    none-some _ (sym (map.get-empty byte_order key) ∙ ap (λ es. map.get (map.from_entries {R = byte_order} es) key) (sym c.new.ensures.empty) ∙ found)
