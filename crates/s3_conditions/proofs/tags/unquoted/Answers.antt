use Rattle.std.proofs.Common.{◌∙◌, ap, reverse}
use Rattle.s3_conditions.specs.Tags.{skip_quotes}
use Rattle.s3_conditions.proofs.tags.unquoted.Goals as goal

pub returns : goal.returns
returns c = c.unquoted_end.ensures ∙ ap (λ s. reverse (skip_quotes (reverse s))) c.unquoted_start.ensures
