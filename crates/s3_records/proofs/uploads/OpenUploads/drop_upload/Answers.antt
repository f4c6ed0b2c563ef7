use Rattle.std.proofs.Common.{sym, ap, ◌∙◌}
use Rattle.std.specs.Cmp.{nat_cmp_total}
use Rattle.std.specs.FinMap as map
use Rattle.s3_records.proofs.OrderedLemmas.{got, taken_out}
use Rattle.s3_records.proofs.uploads.OpenUploads.drop_upload.Goals as goal

pub returns-clause-value : goal.returns-clause-value
returns-clause-value c =
    taken_out nat_cmp_total map.nat_cmp-IsAntisymmetric c.self.inside.by_id.entries c.remove.new.self.entries c.number.result c.remove.ensures.updates.0
    ∙ ap (λ m. map.remove m c.number.result) c.self.view_is
    ∙ ap (map.remove c.args.self.now) c.number.ensures.value

pub returns-clause-gone : goal.returns-clause-gone
returns-clause-gone c =
    sym (got nat_cmp_total c.self.inside.by_id.entries c.args.self.now c.number.result _ c.self.view_is c.remove.ensures.value)
    ∙ ap (map.get c.args.self.now) c.number.ensures.value
