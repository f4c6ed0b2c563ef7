use Rattle.std.proofs.Common.{sym, ap, ◌∙◌, filter, nat_lt}
use Rattle.std.specs.Cmp.{nat_cmp_total}
use Rattle.std.specs.FinMap as map
use Rattle.s3_records.specs.OpenUploads.{upload_rows_of}
use Rattle.s3_records.proofs.ListLemmas.{cut_first}
use Rattle.s3_records.proofs.OrderedLemmas.{entries_are}
use Rattle.s3_records.proofs.UploadListingLemmas.{rows_behind_id}
use Rattle.s3_records.proofs.uploads.OpenUploads.rows_behind.Goals as goal

pub returns-in-Ok-clause-value : goal.returns-in-Ok-clause-value
returns-in-Ok-clause-value c =
    let es = c.self.inside.by_id.entries in
    let made = sym (entries_are nat_cmp_total map.nat_cmp-IsAntisymmetric es c.add_ids.ensures.rising) ∙ ap map.entries c.self.view_is in
    let told = rows_behind_id c.args.key.now c.number.result es c.args.self.now made ∙ ap (λ id. filter (λ row. nat_lt id row.id) (upload_rows_of (c.args.key.now, c.args.self.now))) c.number.ensures.value in
    c.in-Ok.ensures.ok ∙ cut_first c.args.most _ _ _ c.new-rows.ensures.items told

pub returns-in-Err-clause-memory : goal.returns-in-Err-clause-memory
returns-in-Err-clause-memory c =
    let es = c.self.inside.by_id.entries in
    let made = sym (entries_are nat_cmp_total map.nat_cmp-IsAntisymmetric es c.add_ids.ensures.rising) ∙ ap map.entries c.self.view_is in
    let told = rows_behind_id c.args.key.now c.number.result es c.args.self.now made ∙ ap (λ id. filter (λ row. nat_lt id row.id) (upload_rows_of (c.args.key.now, c.args.self.now))) c.number.ensures.value in
    λ none. c.in-Err.ensures.memory (cut_first c.args.most _ _ _ c.new-rows.ensures.items told ∙ none)
