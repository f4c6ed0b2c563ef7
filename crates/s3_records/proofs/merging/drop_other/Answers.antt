use Rattle.std.proofs.Common.{refl, sym, ap, ◌∙◌, cond, None}
use Rattle.std.specs.BTreeMap.{get as value_in}
use Rattle.std.specs.Str.{bytes_eq}
use Rattle.s3_text.specs.Order.{byte_order}
use Rattle.s3_records.specs.Deletions.{is_key_of}
use Rattle.s3_records.specs.Merging.{kept_by}
use Rattle.s3_records.proofs.MergingLemmas.{updated, gone_at, none_is}
use Rattle.s3_records.proofs.merging.drop_other.Goals as goal

pub returns-then-not-contains_key : goal.returns-then-not-contains_key
returns-then-not-contains_key c = λ q.
    let at = value_in byte_order c.args.tree.now in
    let other = value_in byte_order c.args.from.now in
    let key = c.in-Object.deletion.key in
    let none = none_is (other key) (sym c.contains_key.ensures ∙ c.if-not-contains_key.true) in
    updated c.args.tree.now c.remove.new.self key None c.remove.ensures.updates q
    ∙ gone_at other at key q none (bytes_eq key q) refl
    ∙ ap (λ named. cond named (kept_by (other q) (at q)) (at q)) (sym (ap (is_key_of q) c.in-Object.is))
