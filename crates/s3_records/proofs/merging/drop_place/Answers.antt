use Rattle.std.proofs.Common.{refl, sym, ap, ◌∙◌, cond, None}
use Rattle.std.specs.BTreeMap.{get as value_in}
use Rattle.std.specs.Str.{bytes_eq}
use Rattle.s3_text.specs.Order.{byte_order}
use Rattle.s3_records.specs.Catalogue.{found_versions}
use Rattle.s3_records.specs.Deletions.{is_key_of}
use Rattle.s3_records.specs.Merging.{held}
use Rattle.s3_records.proofs.MergingLemmas.{updated, dropped_at}
use Rattle.s3_records.proofs.merging.drop_place.Goals as goal

pub returns-then-is_without : goal.returns-then-is_without
returns-then-is_without c = λ q.
    let at = value_in byte_order c.args.tree.now in
    let key = c.in-Object.deletion.key in
    let without = rw c.if-is_without.true at c.is_without.ensures in
    updated c.args.tree.now c.remove.new.self key None c.remove.ensures.updates q
    ∙ dropped_at at key q without (bytes_eq key q) refl
    ∙ ap (λ named. cond named (held (found_versions (at q))) (at q)) (sym (ap (is_key_of q) c.in-Object.is))
