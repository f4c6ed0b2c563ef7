use Rattle.std.proofs.Common.{sym, ap, ◌∙◌}
use Rattle.std.specs.Cmp.{nat_cmp_total}
use Rattle.std.specs.FinMap as map
use Rattle.s3_records.proofs.OrderedLemmas.{got}
use Rattle.s3_records.proofs.uploads.OpenUploads.get.Goals as goal

pub returns : goal.returns
returns c =
    sym (got nat_cmp_total c.self.inside.by_id.entries c.args.self.now c.number.result _ c.self.view_is c.get.ensures.value)
    ∙ ap (map.get c.args.self.now) c.number.ensures.value
