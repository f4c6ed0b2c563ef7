use Rattle.std.proofs.Common.{sym, ap, ◌∙◌, [], ◌∷◌, ◌++◌, take}
use Rattle.std.proofs.lemmas.List.{take_more}
use Rattle.std.specs.FinMap as map
use Rattle.s3_records.specs.Catalogue.{opening, new_bucket}
use Rattle.s3_records.proofs.CatalogueLemmas.{opening-push}
use Rattle.s3_records.proofs.map_records.MapRecords.of_buckets.Goals as goal

-- one more name is one more bucket
pub loop-name-preserved : goal.loop-name-preserved
loop-name-preserved c =
    let names = c.args.names.now in
    let i = c.loop-name.name-index in
    let name = c.name-item.result in
    let copy = c.in_ok-copy.field-0 in
    let made = c.first_moment.result in
    c.in-Ok.ensures.ok
    ∙ ap (λ m. map.insert m copy (new_bucket made)) c.loop-name.invariant
    ∙ ap (λ k. map.insert (opening (take i names)) k (new_bucket made)) c.in_ok-copy.ensures.value
    ∙ ap (λ t. map.insert (opening (take i names)) name (new_bucket t)) c.first_moment.ensures
    ∙ sym (opening-push (take i names) name)
    ∙ ap (λ k. opening (take i names ++ k ∷ [])) c.name-item.is
    ∙ ap opening (sym (take_more names i name c.loop-name-test.true))
