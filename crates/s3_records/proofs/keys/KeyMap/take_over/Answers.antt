use Rattle.std.proofs.Common.{refl, sym, ap, ◌∙◌, cond}
use Rattle.std.specs.BTreeMap.{get as value_in}
use Rattle.std.specs.FinMap as map
use Rattle.s3_text.specs.Order.{byte_order}
use Rattle.s3_text.proofs.MapLemmas.{get-made, get_by_tree, same_by_get}
use Rattle.s3_records.specs.Deletions.{is_key_of_any}
use Rattle.s3_records.proofs.MergingLemmas.{over_all, over_filled, undone}
use Rattle.s3_records.proofs.keys.KeyMap.take_over.Goals as goal

-- where all places were made
pub invariant_of-self : goal.invariant_of-self
invariant_of-self c = λ q found.
    let start = c.self.inside.by_key in
    let from = c.from.inside.by_key in
    let after = c.put_each.new.tree in
    over_filled (is_key_of_any q c.args.objects.now) (value_in byte_order from q) (value_in byte_order start q) (value_in byte_order after q)
    (over_all (is_key_of_any q c.args.objects.now) (value_in byte_order from q) (value_in byte_order start q) (value_in byte_order c.make_places.new.tree q) (value_in byte_order c.drop_others.new.tree q) (value_in byte_order after q)
    (c.in-Ok.ensures.placed q) (c.in-Ok.ensures.ok q) (c.drop_others.ensures q) (c.put_each.ensures q))
    (λ none. c.from.invariant q (get-made from.entries q ∙ none)) (λ none. c.self.invariant q (get-made start.entries q ∙ none))
    (sym (get-made after.entries q) ∙ found)

pub returns-in-Ok-clause-ok : goal.returns-in-Ok-clause-ok
returns-in-Ok-clause-ok c = λ q.
    let named = is_key_of_any q c.args.objects.now in
    let start = c.self.inside.by_key in
    let from = c.from.inside.by_key in
    let after = c.put_each.new.tree in
    get-made after.entries q
    ∙ over_all named (value_in byte_order from q) (value_in byte_order start q) (value_in byte_order c.make_places.new.tree q) (value_in byte_order c.drop_others.new.tree q) (value_in byte_order after q)
    (c.in-Ok.ensures.placed q) (c.in-Ok.ensures.ok q) (c.drop_others.ensures q) (c.put_each.ensures q)
    ∙ ap (λ found. cond named found (value_in byte_order start q)) (sym (get_by_tree from.entries c.args.from q _ c.from.view_is refl))
    ∙ ap (λ found. cond named (map.get c.args.from q) found) (sym (get_by_tree start.entries c.args.self.now q _ c.self.view_is refl))

-- where some weren't
pub invariant_of-self-in-Err : goal.invariant_of-self-in-Err
invariant_of-self-in-Err c = λ q found.
    let start = c.self.inside.by_key in
    let after = c.drop_places.new.tree in
    c.self.invariant q (get-made start.entries q
    ∙ sym (undone (is_key_of_any q c.args.objects.now) (value_in byte_order start q) (value_in byte_order c.make_places.new.tree q) (value_in byte_order after q)
    (λ none. c.self.invariant q (get-made start.entries q ∙ none)) (c.in-Err.ensures.placed q) (c.drop_places.ensures q))
    ∙ sym (get-made after.entries q) ∙ found)

pub returns-in-Err-clause-err : goal.returns-in-Err-clause-err
returns-in-Err-clause-err c =
    let start = c.self.inside.by_key in
    let after = c.drop_places.new.tree in
    same_by_get (map.from_entries after.entries) (map.from_entries start.entries) (λ q.
    get-made after.entries q
    ∙ undone (is_key_of_any q c.args.objects.now) (value_in byte_order start q) (value_in byte_order c.make_places.new.tree q) (value_in byte_order after q) (λ none. c.self.invariant q (get-made start.entries q ∙ none))
    (c.in-Err.ensures.placed q) (c.drop_places.ensures q)
    ∙ sym (get-made start.entries q))
    ∙ c.self.view_is
