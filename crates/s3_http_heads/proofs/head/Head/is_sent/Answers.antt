use Rattle.std.proofs.Common.{◌∙◌}
use Rattle.s3_http_heads.proofs.NameLemmas.{is_some-found}
use Rattle.s3_http_heads.proofs.head.Head.is_sent.Goals as goal

pub returns : goal.returns
returns c = c.is_some.ensures ∙ is_some-found c.args.name.now c.args.self.now c.first.result c.first.ensures
