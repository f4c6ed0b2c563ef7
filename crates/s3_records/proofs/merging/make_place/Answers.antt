use Rattle.std.proofs.Common.{refl, sym, ap, subst, ◌∙◌, inl, [], Some}
use Rattle.std.specs.BTreeMap.{Updates, get as value_in}
use Rattle.s3_text.specs.Order.{byte_order}
use Rattle.s3_text.proofs.MapLemmas.{value_at}
use Rattle.s3_records.specs.Deletions.{is_key_of}
use Rattle.s3_records.specs.Merging.{IsKeptOrPlaced}
use Rattle.s3_records.proofs.KeyLemmas.{either_way, then_ok, then_err}
use Rattle.s3_records.proofs.MergingLemmas.{placed_at, place_there, none_is}
use Rattle.s3_records.proofs.merging.make_place.Goals as goal

-- where no versions stood
pub returns-in_ok-copy-in-Object-clause-placed : goal.returns-in_ok-copy-in-Object-clause-placed
returns-in_ok-copy-in-Object-clause-placed c = λ q.
    let before = c.args.tree.now in
    let after = c.put.new.tree in
    let key = c.in-Object.deletion.key in
    let copy = c.in_ok-copy-in-Object.field-0 in
    let none = none_is (value_in byte_order before key) (sym c.contains_key.ensures ∙ c.if-contains_key.false) in
    subst (λ named. IsKeptOrPlaced named (value_in byte_order before q) (value_in byte_order after q)) (sym (ap (is_key_of q) c.in-Object.is))
    (either_way c.put.result
    (then_ok c.put.result (λ updates. placed_at before after key
    (subst (λ k. Updates byte_order before after k (Some [])) c.in_ok-copy-in-Object.ensures.value (subst (λ vs. Updates byte_order before after copy (Some vs)) c.new.ensures updates)) none q)
    (c.put.ensures.ok c.new.result refl))
    (then_err c.put.result (λ same. inl (ap (λ es. value_at es q) same)) c.put.ensures.err))

pub returns-in_ok-copy-in-Object-clause-ok : goal.returns-in_ok-copy-in-Object-clause-ok
returns-in_ok-copy-in-Object-clause-ok c =
    let before = c.args.tree.now in
    let after = c.put.new.tree in
    let key = c.in-Object.deletion.key in
    let copy = c.in_ok-copy-in-Object.field-0 in
    then_ok c.put.result (λ updates q named. place_there before after key c.new.result
    (subst (λ k. Updates byte_order before after k (Some c.new.result)) c.in_ok-copy-in-Object.ensures.value updates) q (sym (ap (is_key_of q) c.in-Object.is) ∙ named))
    (c.put.ensures.ok c.new.result refl)
