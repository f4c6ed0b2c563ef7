use Rattle.std.proofs.Common.{sym, ap, ◌∙◌}
use Rattle.std.specs.FinMap as map
use Rattle.s3_text.proofs.MapLemmas.{get-made}
use Rattle.s3_records.proofs.map_records.MapRecords.found_bucket.Goals as goal

pub returns : goal.returns
returns c =
    c.get.ensures.value
    ∙ sym (get-made c.self.inside.by_name.entries c.args.name.now)
    ∙ ap (λ m. map.get m c.args.name.now) c.self.view_is
