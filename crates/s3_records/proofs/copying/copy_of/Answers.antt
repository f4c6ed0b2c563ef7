use Rattle.std.proofs.Common.{sym, ap, subst, ◌∙◌, ◌+◌, ◌-◌, IsTrue, length, ◌∷◌}
use Rattle.s3_versions.specs.Rules.{are_versions}
use Rattle.s3_records.proofs.CopyLemmas.{one_before, valid_rest}
use Rattle.s3_records.proofs.KeyLemmas.{if_ok}
use Rattle.s3_records.proofs.copying.copy_of.Goals as goal

-- what is in front of those that were put back is newer
pub put_first-requires : goal.put_first-requires
put_first-requires c =
    let list = c.as_slice-list.result.now in
    let index = c.loop-index.index in
    let version = c.index-list-list.result in
    let valid = ap are_versions c.as_slice-list.ensures.value ∙ c.as_slice-list.ensures.valid in
    let before = ap (λ rest. are_versions (version ∷ rest)) c.loop-index.invariant
    ∙ ap are_versions (sym (one_before list index version c.index-list-list.is c.loop-index-test.true))
    ∙ valid_rest list (length list - (index + 1)) valid in
    if_ok c.copy.result (λ copied same. subst (λ v. IsTrue (are_versions (v ∷ c.loop-index.copied))) (sym same) before) c.copy.ensures.value

pub loop-index-preserved : goal.loop-index-preserved
loop-index-preserved c =
    let list = c.as_slice-list.result.now in
    let version = c.index-list-list.result in
    c.in-Ok.ensures version c.copy.ensures.value ∙ ap (λ rest. version ∷ rest) c.loop-index.invariant
    ∙ sym (one_before list c.loop-index.index version c.index-list-list.is c.loop-index-test.true)
