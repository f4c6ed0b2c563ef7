use Rattle.std.specs.BTreeMap.{get as value_in}
use Rattle.s3_text.specs.Order.{byte_order}
use Rattle.s3_records.specs.Deletions.{is_key_of}
use Rattle.s3_records.specs.Catalogue.{found_versions}
use Rattle.s3_records.specs.Merging.{held}
use Rattle.s3_records.proofs.MergingLemmas.{one_more, held_twice}
use Rattle.s3_records.proofs.merging.drop_places.Goals as goal

pub loop-object-preserved : goal.loop-object-preserved
loop-object-preserved c = λ q.
    one_more (λ found. held (found_versions found)) held_twice (is_key_of q) c.args.objects.now c.loop-object.object-index c.object-item.result c.object-item.is c.loop-object-test.true
    (value_in byte_order c.args.tree.now q) (value_in byte_order c.loop-object.tree q) (value_in byte_order c.drop_place.new.tree q) (c.loop-object.invariant q) (c.drop_place.ensures q)
