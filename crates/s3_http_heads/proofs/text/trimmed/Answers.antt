use Rattle.std.proofs.Common.{◌∙◌, ap, reverse}
use Rattle.httparse.specs.Grammar.{skip_ows, trim_ows}
use Rattle.s3_http_heads.proofs.text.trimmed.Goals as goal

pub returns : goal.returns
unfolding trim_ows
returns c = c.trimmed_end.ensures ∙ ap (λ s. reverse (skip_ows (reverse s))) c.trimmed_start.ensures
