use Rattle.std.proofs.Common.{◌∙◌}
use Rattle.std.specs.Cmp.Lexicographic.{texts_ties}
use Rattle.s3_row_deletions.proofs.standing.is_same.Goals as goal

pub returns : goal.returns
returns c = c.eq.ensures ∙ texts_ties c.args.text.now c.args.other.now
