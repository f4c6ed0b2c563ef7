use Rattle.std.proofs.Common.{refl, sym, ap, subst, ◌∙◌, cond, Some}
use Rattle.std.specs.BTreeMap.{Updates, get as value_in}
use Rattle.std.specs.Option.{option_or}
use Rattle.std.specs.Str.{bytes_eq}
use Rattle.s3_text.specs.Order.{byte_order}
use Rattle.s3_records.specs.Deletions.{is_key_of}
use Rattle.s3_records.proofs.KeyLemmas.{then_ok}
use Rattle.s3_records.proofs.MergingLemmas.{updated, copied_at, none_is}
use Rattle.s3_records.proofs.copying.copy_one.Goals as goal

pub returns-in_ok-copy-in-Some : goal.returns-in_ok-copy-in-Some
returns-in_ok-copy-in-Some c =
    let before = c.args.copies.now in
    let after = c.put.new.tree in
    let key = c.in-Object.deletion.key in
    let at = value_in byte_order before in
    let from = value_in byte_order c.args.from.now in
    let versions = c.in-Some.versions.now in
    let none = none_is (at key) (sym c.contains_key.ensures ∙ c.if-contains_key.false) in
    then_ok c.put.result (λ updates q.
    updated before after key (Some versions) (subst (λ k. Updates byte_order before after k (Some versions)) c.in_ok-copy-in-Some.ensures.value updates) q
    ∙ copied_at at from key q versions none c.in-Some.ensures.value (bytes_eq key q) refl
    ∙ ap (λ named. cond named (option_or (at q) (from q)) (at q)) (sym (ap (is_key_of q) c.in-Object.is)))
    (c.put.ensures.ok versions c.copy_of.ensures)
