use Rattle.std.proofs.Common.{ap, ◌∙◌}
use Rattle.std.specs.FinMap as map
use Rattle.s3_records.proofs.MapLemmas.{made_by_remove}
use Rattle.s3_records.proofs.map_records.MapRecordsRecords.drop_bucket.Goals as goal

pub returns-clause-ok : goal.returns-clause-ok
returns-clause-ok c =
    made_by_remove c.self.inside.by_name.entries c.remove.new.self.entries c.args.name.now c.remove.ensures.updates.0
    ∙ ap (λ m. map.remove m c.args.name.now) c.self.view_is
