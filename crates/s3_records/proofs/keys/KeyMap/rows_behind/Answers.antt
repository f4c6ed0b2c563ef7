use Rattle.std.proofs.Common.{sym, ap, ◌∙◌, false, map as each}
use Rattle.std.specs.FinMap as map
use Rattle.s3_records.specs.Rows.{version_row}
use Rattle.s3_records.proofs.ListLemmas.{cut_first, cut_then}
use Rattle.s3_records.proofs.MapLemmas.{entries-made}
use Rattle.s3_records.proofs.ListingLemmas.{rows_behind_key}
use Rattle.s3_records.proofs.keys.KeyMap.rows_behind.Goals as goal

pub returns-in-Ok-clause-value : goal.returns-in-Ok-clause-value
returns-in-Ok-clause-value c =
    let key = c.args.key.now in
    let es = c.self.inside.by_key.entries in
    let made = sym (entries-made es c.add_keys.ensures.rising) ∙ ap map.entries c.self.view_is in
    let older = c.in_ok-add_older.ensures.ok ∙ cut_first c.args.most _ _ _ c.new-rows.ensures.items (ap (each (version_row key false)) c.versions_behind.ensures) in
    c.in-Ok.ensures.ok ∙ cut_then c.args.most _ _ _ _ older (rows_behind_key key es _ made)

pub returns-in-Err-clause-memory : goal.returns-in-Err-clause-memory
returns-in-Err-clause-memory c =
    let key = c.args.key.now in
    let es = c.self.inside.by_key.entries in
    let made = sym (entries-made es c.add_keys.ensures.rising) ∙ ap map.entries c.self.view_is in
    let older = c.in_ok-add_older.ensures.ok ∙ cut_first c.args.most _ _ _ c.new-rows.ensures.items (ap (each (version_row key false)) c.versions_behind.ensures) in
    λ none. c.in-Err.ensures.memory
    (cut_then c.args.most _ _ _ _ older (rows_behind_key key es _ made) ∙ none)
