use Rattle.std.proofs.Common.{sym, ◌∙◌, take}
use Rattle.std.specs.BTreeMap.{get as value_in}
use Rattle.s3_text.specs.Order.{byte_order}
use Rattle.s3_records.specs.Deletions.{is_key_of, is_key_of_any}
use Rattle.s3_records.proofs.MergingLemmas.{any_at, any_more, either_true, placed_more, kept_there}
use Rattle.s3_records.proofs.merging.make_places.Goals as goal

pub loop-object-preserved : goal.loop-object-preserved
loop-object-preserved c =
    let objects = c.args.objects.now in
    let i = c.loop-object.object-index in
    let object = c.object-item.result in
    record {
      placed = λ q. placed_more (is_key_of_any q objects) (is_key_of q object) (value_in byte_order c.args.tree.now q) (value_in byte_order c.loop-object.tree q) (value_in byte_order c.make_place.new.tree q)
          (c.loop-object.invariant.placed q) (c.make_place.ensures.placed q) (any_at (is_key_of q) objects i object c.object-item.is c.loop-object-test.true);
      there = λ q named. either_true (is_key_of_any q (take i objects)) (is_key_of q object) (sym (any_more (is_key_of q) objects i object c.object-item.is c.loop-object-test.true) ∙ named)
          (λ before. kept_there (is_key_of q object) (value_in byte_order c.loop-object.tree q) (value_in byte_order c.make_place.new.tree q) (c.make_place.ensures.placed q) (c.loop-object.invariant.there q before))
          (λ now. c.in_ok-make_place.ensures.ok q now);
    }

-- where there is no memory for one of them
pub returns-in_err-make_place-clause-placed : goal.returns-in_err-make_place-clause-placed
returns-in_err-make_place-clause-placed c = λ q.
    placed_more (is_key_of_any q c.args.objects.now) (is_key_of q c.object-item.result) (value_in byte_order c.args.tree.now q) (value_in byte_order c.loop-object.tree q) (value_in byte_order c.make_place.new.tree q)
    (c.loop-object.invariant.placed q) (c.make_place.ensures.placed q) (any_at (is_key_of q) c.args.objects.now c.loop-object.object-index c.object-item.result c.object-item.is c.loop-object-test.true)
