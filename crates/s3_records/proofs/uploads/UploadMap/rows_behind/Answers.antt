use Rattle.std.proofs.Common.{sym, ap, ◌∙◌, take}
use Rattle.std.specs.FinMap as map
use Rattle.s3_records.proofs.KeyLemmas.{on_err}
use Rattle.s3_records.proofs.ListLemmas.{cut_then, cut_some}
use Rattle.s3_records.proofs.MapLemmas.{entries-made}
use Rattle.s3_records.proofs.UploadListingLemmas.{upload_rows_behind, rows_behind_key}
use Rattle.s3_records.proofs.uploads.UploadMap.rows_behind.Goals as goal

pub returns-in-Ok-clause-value : goal.returns-in-Ok-clause-value
returns-in-Ok-clause-value c =
    let key = c.args.key.now in
    let es = c.self.inside.by_key.entries in
    let made = sym (entries-made es c.add_keys.ensures.rising) ∙ ap map.entries c.self.view_is in
    c.in-Ok.ensures.ok
    ∙ cut_then c.args.most _ _ _ _ c.in_ok-rows.ensures.value (rows_behind_key key es _ made)
    ∙ ap (take c.args.most) (upload_rows_behind c.args.self.now key c.args.id)

pub returns-in_err-rows-clause-memory : goal.returns-in_err-rows-clause-memory
returns-in_err-rows-clause-memory c =
    on_err c.from_residual.result (λ none.
    cut_some c.args.most _ _ c.in_err-rows.ensures.memory (ap (take c.args.most) (upload_rows_behind c.args.self.now c.args.key.now c.args.id) ∙ none))

pub returns-in-Err-clause-memory : goal.returns-in-Err-clause-memory
returns-in-Err-clause-memory c =
    let key = c.args.key.now in
    let es = c.self.inside.by_key.entries in
    let made = sym (entries-made es c.add_keys.ensures.rising) ∙ ap map.entries c.self.view_is in
    λ none. c.in-Err.ensures.memory
    (cut_then c.args.most _ _ _ _ c.in_ok-rows.ensures.value (rows_behind_key key es _ made)
    ∙ ap (take c.args.most) (upload_rows_behind c.args.self.now key c.args.id) ∙ none)
