use Rattle.std.proofs.Common.{sym, ap, ◌∙◌, cond, None}
use Rattle.std.specs.BTreeMap.{get as value_in}
use Rattle.s3_text.specs.Order.{byte_order}
use Rattle.s3_records.specs.Deletions.{is_key_of}
use Rattle.s3_records.proofs.MergingLemmas.{updated}
use Rattle.s3_records.proofs.merging.put_one.Goals as goal

pub returns-in-Some-clause-moved : goal.returns-in-Some-clause-moved
returns-in-Some-clause-moved c = λ q.
    updated c.args.from.now c.remove.new.self c.in-Object.deletion.key None c.remove.ensures.updates q
    ∙ ap (λ named. cond named None (value_in byte_order c.args.from.now q)) (sym (ap (is_key_of q) c.in-Object.is))
