use Rattle.std.proofs.Common.{sym, ap, ◌∙◌, ◌==◌}
use Rattle.std.specs.FinMap as map
use Rattle.s3_records.proofs.MapLemmas.{len-made}
use Rattle.s3_records.proofs.uploads.UploadMap.is_empty.Goals as goal

pub returns : goal.returns
returns c =
    let len = sym (len-made c.self.inside.by_key.entries c.len.ensures.ordered) ∙ ap map.len c.self.view_is in
    ap (λ n. n == 0) (c.len.ensures.len ∙ len)
