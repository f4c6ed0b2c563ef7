use Rattle.std.proofs.Common.{ap, ◌∙◌}
use Rattle.s3_requests.specs.Copies.{directive_named, directive_of}
use Rattle.s3_requests.proofs.copies.directive_of.Goals as goal

pub returns : goal.returns
unfolding directive_of
returns c = c.directive_named.ensures ∙ ap (directive_named c.args.dialect) c.first.ensures
