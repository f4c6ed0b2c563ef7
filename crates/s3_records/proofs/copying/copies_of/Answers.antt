use Rattle.std.proofs.Common.{ap, None}
use Rattle.std.specs.BTreeMap.{get as value_in}
use Rattle.std.specs.Option.{option_or}
use Rattle.s3_text.specs.Order.{byte_order}
use Rattle.s3_text.proofs.MapLemmas.{value_at}
use Rattle.s3_records.specs.Deletions.{is_key_of}
use Rattle.s3_records.proofs.MergingLemmas.{one_more, or_twice}
use Rattle.s3_records.proofs.copying.copies_of.Goals as goal

pub loop-object-init : goal.loop-object-init
loop-object-init c = λ q. ap (λ es. value_at es q) c.new-copies.ensures.empty

pub loop-object-preserved : goal.loop-object-preserved
loop-object-preserved c = λ q.
    let from = value_in byte_order c.args.from.now q in
    one_more (λ found. option_or found from) (or_twice from) (is_key_of q) c.args.objects.now c.loop-object.object-index c.object-item.result c.object-item.is c.loop-object-test.true
    None (value_in byte_order c.loop-object.copies q) (value_in byte_order c.copy_one.new.copies q) (c.loop-object.invariant q) (c.in-Ok.ensures q)
