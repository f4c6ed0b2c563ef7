use Rattle.std.proofs.Common.{sym, ap, ◌∙◌, [], ◌∷◌, ◌++◌, take}
use Rattle.std.proofs.lemmas.List.{take_more}
use Rattle.std.specs.FinMap as map
use Rattle.s3_records.specs.Catalogue.{opening, new_bucket}
use Rattle.s3_records.proofs.CatalogueLemmas.{opening-push}
use Rattle.s3_table_records.proofs.opening.open_buckets.Goals as goal

pub open_bucket-requires : goal.open_bucket-requires
open_bucket-requires g c = (take c.loop-name.name-index c.args.names.now, c.loop-name.invariant)

-- one more name is one more bucket
pub loop-name-preserved : goal.loop-name-preserved
loop-name-preserved g c =
    let names = c.args.names.now in
    let i = c.loop-name.name-index in
    let name = c.name-item.result in
    c.in_ok-open_bucket.ensures
    ∙ ap (λ m. map.insert m name (new_bucket 0)) c.loop-name.invariant
    ∙ sym (opening-push (take i names) name)
    ∙ ap (λ k. opening (take i names ++ k ∷ [])) c.name-item.is
    ∙ ap opening (sym (take_more names i name c.loop-name-test.true))
