use Rattle.std.proofs.Common.{refl, ap, ◌∙◌}
use Rattle.std.specs.FinMap as map
use Rattle.s3_text.proofs.MapLemmas.{made_by_insert}
use Rattle.s3_records.proofs.KeyLemmas.{then_ok}
use Rattle.s3_records.proofs.map_records.MapRecords.put_bucket.Goals as goal

pub returns-clause-ok : goal.returns-clause-ok
returns-clause-ok c =
    then_ok c.put.result
    (λ updates. made_by_insert c.self.inside.by_name.entries c.put.new.tree.entries c.args.name c.new.result updates.0
    ∙ ap (λ m. map.insert m c.args.name c.new.result) c.self.view_is
    ∙ ap (map.insert c.args.self.now c.args.name) c.new.ensures)
    (c.put.ensures.ok c.new.result refl)
