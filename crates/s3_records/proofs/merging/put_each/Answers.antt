use Rattle.std.proofs.Common.{refl, None, take}
use Rattle.std.specs.BTreeMap.{get as value_in}
use Rattle.s3_text.specs.Order.{byte_order}
use Rattle.s3_records.specs.Deletions.{is_key_of, is_key_of_any}
use Rattle.s3_records.proofs.MergingLemmas.{any_at, has_place, moved_more, one_more}
use Rattle.s3_records.proofs.merging.put_each.Goals as goal

-- what is left to move has a place
pub put_one-requires : goal.put_one-requires
put_one-requires c = λ q named some.
    let objects = c.args.objects.now in
    let i = c.loop-object.object-index in
    has_place (is_key_of_any q (take i objects)) (value_in byte_order c.args.from q) (value_in byte_order c.args.tree.now q) (value_in byte_order c.loop-object.from q) (value_in byte_order c.loop-object.tree q)
    (c.loop-object.invariant.moved q) (c.loop-object.invariant.put q) (c.requires q (any_at (is_key_of q) objects i c.object-item.result c.object-item.is c.loop-object-test.true named)) some

pub loop-object-preserved : goal.loop-object-preserved
loop-object-preserved c = record {
  moved = λ q. one_more (λ found. None) (λ found. refl) (is_key_of q) c.args.objects.now c.loop-object.object-index c.object-item.result c.object-item.is c.loop-object-test.true
      (value_in byte_order c.args.from q) (value_in byte_order c.loop-object.from q) (value_in byte_order c.put_one.new.from q) (c.loop-object.invariant.moved q) (c.put_one.ensures.moved q);
  put = λ q. moved_more (is_key_of q) c.args.objects.now c.loop-object.object-index c.object-item.result c.object-item.is c.loop-object-test.true
      (value_in byte_order c.args.from q) (value_in byte_order c.args.tree.now q) (value_in byte_order c.loop-object.from q) (value_in byte_order c.loop-object.tree q) (value_in byte_order c.put_one.new.tree q)
      (c.loop-object.invariant.moved q) (c.loop-object.invariant.put q) (c.put_one.ensures.put q);
}
