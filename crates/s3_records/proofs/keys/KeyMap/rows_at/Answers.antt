use Rattle.std.proofs.Common.{sym, ap, ◌∙◌}
use Rattle.std.specs.FinMap as map
use Rattle.std.specs.Range.Bound.{bound_map}
use Rattle.s3_records.proofs.ListLemmas.{cut_first}
use Rattle.s3_records.proofs.MapLemmas.{entries-made}
use Rattle.s3_records.proofs.ListingLemmas.{version_rows_from}
use Rattle.s3_records.proofs.keys.KeyMap.rows_at.Goals as goal

pub returns-in-Ok-clause-value : goal.returns-in-Ok-clause-value
returns-in-Ok-clause-value c =
    let es = c.self.inside.by_key.entries in
    let made = sym (entries-made es c.add_keys.ensures.rising) ∙ ap map.entries c.self.view_is in
    c.in-Ok.ensures.ok
    ∙ cut_first c.args.most _ _ _ c.new-rows.ensures.items (version_rows_from (bound_map (λ x. x.now) c.first_key.result) c.args.start.now c.first_key.ensures es _ made)

pub returns-in-Err-clause-memory : goal.returns-in-Err-clause-memory
returns-in-Err-clause-memory c =
    let es = c.self.inside.by_key.entries in
    let made = sym (entries-made es c.add_keys.ensures.rising) ∙ ap map.entries c.self.view_is in
    λ none. c.in-Err.ensures.memory
    (cut_first c.args.most _ _ _ c.new-rows.ensures.items (version_rows_from (bound_map (λ x. x.now) c.first_key.result) c.args.start.now c.first_key.ensures es _ made) ∙ none)
