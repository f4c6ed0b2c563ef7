use Rattle.std.proofs.Common.{refl, sym, ap, ◌∙◌, cond, None}
use Rattle.std.proofs.lemmas.Option.{none-some}
use Rattle.std.specs.BTreeMap.{get as value_in}
use Rattle.s3_text.specs.Order.{byte_order}
use Rattle.s3_text.proofs.MapLemmas.{get-made, get_by_tree}
use Rattle.s3_records.specs.Deletions.{is_key_of_any}
use Rattle.s3_records.proofs.MergingLemmas.{over_filled}
use Rattle.s3_records.proofs.keys.KeyMap.copies.Goals as goal

-- no key is there without versions
pub invariant_of-result : goal.invariant_of-result
invariant_of-result c = λ q found.
    let from = c.self.inside.by_key in
    let copies = c.in-Ok.by_key in
    over_filled (is_key_of_any q c.args.objects.now) (value_in byte_order from q) None (value_in byte_order copies q) (c.in-Ok.ensures q)
    (λ none. c.self.invariant q (get-made from.entries q ∙ none)) (λ none. none-some _ none) (sym (get-made copies.entries q) ∙ found)

pub returns-in-Ok : goal.returns-in-Ok
returns-in-Ok c = λ q.
    let from = c.self.inside.by_key in
    get-made c.in-Ok.by_key.entries q ∙ c.in-Ok.ensures q
    ∙ ap (λ found. cond (is_key_of_any q c.args.objects.now) found None) (sym (get_by_tree from.entries c.args.self.now q _ c.self.view_is refl))
