use Rattle.std.proofs.Common.{sym, ap, ◌∙◌}
use Rattle.std.specs.FinMap as map
use Rattle.s3_text.proofs.MapLemmas.{get-made}
use Rattle.s3_records.proofs.uploads.UploadMap.under.Goals as goal

pub returns : goal.returns
returns c =
    c.get.ensures.value
    ∙ sym (get-made c.self.inside.by_key.entries c.args.key.now)
    ∙ ap (λ m. map.get m c.args.key.now) c.self.view_is
