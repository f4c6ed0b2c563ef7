use Rattle.std.proofs.Common.{sym, ap, ◌∙◌, ◌==◌}
use Rattle.std.specs.Cmp.{nat_cmp_total}
use Rattle.std.specs.FinMap as map
use Rattle.s3_records.proofs.OrderedLemmas.{len_is}
use Rattle.s3_records.proofs.uploads.OpenUploads.is_empty.Goals as goal

pub returns : goal.returns
returns c =
    let len = sym (len_is nat_cmp_total map.nat_cmp-IsAntisymmetric c.self.inside.by_id.entries c.len.ensures.ordered) ∙ ap map.len c.self.view_is in
    ap (λ n. n == 0) (c.len.ensures.len ∙ len)
