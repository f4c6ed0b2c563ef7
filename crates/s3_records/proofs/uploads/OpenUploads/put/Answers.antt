use Rattle.std.proofs.Common.{refl, ap, ◌∙◌}
use Rattle.std.specs.Cmp.{nat_cmp_total}
use Rattle.std.specs.FinMap as map
use Rattle.s3_records.proofs.KeyLemmas.{then_ok}
use Rattle.s3_records.proofs.OrderedLemmas.{put_in}
use Rattle.s3_records.proofs.uploads.OpenUploads.put.Goals as goal

pub returns-clause-ok : goal.returns-clause-ok
returns-clause-ok c =
    then_ok c.put.result
    (λ updates. put_in nat_cmp_total map.nat_cmp-IsAntisymmetric c.self.inside.by_id.entries c.put.new.tree.entries c.number.result c.args.upload updates.0
    ∙ ap (λ m. map.insert m c.number.result c.args.upload) c.self.view_is
    ∙ ap (λ id. map.insert c.args.self.now id c.args.upload) c.number.ensures.value)
    (c.put.ensures.ok c.args.upload refl)
